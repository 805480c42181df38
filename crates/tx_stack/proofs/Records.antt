-- Records that are read as calls on stacks run on the lists.
use Rattle.std.proofs.Common.{◌≡◌, ◌≢◌, ℕ, Bool, List, [], ◌∷◌, length, sym, refl, ap, ◌∙◌, subst, arith}
use mathlib.Core.Path.{fun_ext}
use Rattle.serial_terms.specs.declared.call.Done.{Done}
use Rattle.serial_terms.specs.Counts.{with_at}
use Rattle.serial_terms.specs.Facts.{with_at_same, with_at_other}
use Rattle.serial_terms.specs.Histories.{Runs}
use Rattle.serial_terms.specs.Serial.{State, rest}
use Rattle.serial_terms.specs.Stores.{opening_of}
use Rattle.tx_stack.specs.declared.part.StackPart.{StackPart}
use Rattle.std.specs.Prelude.{Option, Some, None}
use Rattle.tx_stack.specs.Stacks.{StandForStacks, IsItemOf, AreWithin, RunsOnLists, IsMoved}
use Rattle.tx_stack.specs.Facts.{items_count, one_list}
use Rattle.tx_stack.specs.Runs.{all_run}
use Rattle.tx_stack.specs.Laws.{StacksOpenEmpty, CallsRunOnLists, RecordsRunOnLists, MovesMoveTheTop, move_calls}

pub open_empty : StacksOpenEmpty
unfolding opening_of
open_empty parts apart layout = record { apart = apart; within = λ p at. omega arith; items = λ p at. refl; others = λ c none. refl }

pub calls_run : CallsRunOnLists
calls_run parts s t lists l dones calls is r = all_run parts calls s t lists l is.each (subst (λ (ds : List Done). Runs s ds t) is.all r)

within : (parts : List StackPart) (cells : ℕ → ℕ) (lists : ℕ → List ℕ) → StandForStacks parts cells lists → AreWithin parts lists
within parts cells lists l p at =
    let few = l.within p at in
    let count = ap length (l.items p at) ∙ items_count cells p.base (cells p.base) in
    omega (arith, few, count)

pub records_run : RecordsRunOnLists
records_run parts s t lists l [] each r = record {
  calls = [];
  each = tt;
  all = refl;
  end = lists;
  legal = refl;
  stand = subst (λ (u : State). StandForStacks parts u.cells lists) r l;
}
records_run parts s t lists l (e ∷ es) each r =
    let runs = calls_run parts s r.0 lists l e.dones each.0.0 each.0.1 r.1 in
    let more = records_run parts r.0 t runs.end runs.stand es each.1 r.4 in
    record {
      calls = record { caller = e.caller; index = e.index; place = e.place; writer = e.writer; dones = each.0.0 } ∷ more.calls;
      each = (each.0.1.each, more.each);
      all = λ i. record { caller = e.caller; index = e.index; place = e.place; writer = e.writer; dones = each.0.1.all i } ∷ more.all i;
      end = more.end;
      legal = (
        runs.end,
        runs.run,
        within parts r.0.cells runs.end runs.stand,
        (λ reads. fun_ext (one_list parts s.cells runs.end lists (subst (λ (u : State). StandForStacks parts u.cells runs.end) (r.3 reads) runs.stand) l)),
        more.legal,
      );
      stand = more.stand;
    }

module _ (from to : StackPart) (b : Bool) (n m k v : ℕ) (before after : ℕ → List ℕ) (other : from.base ≢ to.base) where
  abbrev put : List ℕ
  put = v ∷ before to.base

  abbrev mid : ℕ → List ℕ
  mid = with_at before to.base put

  kept : mid from.base ≡ before from.base
  kept = with_at_other before to.base put from.base other

  left_is : ((c : ℕ) → with_at mid from.base (rest (mid from.base)) c ≡ after c) → (below : List ℕ) → before from.base ≡ v ∷ below → IsMoved from.base to.base v before after
  left_is end below top =
      let left : after from.base ≡ below = sym (end from.base) ∙ (with_at_same mid from.base (rest (mid from.base)) from.base refl ∙ ap rest (kept ∙ top)) in
      record {
        top = top ∙ ap (λ (xs : List ℕ). v ∷ xs) (sym left);
        there = sym (end to.base) ∙ (with_at_other mid from.base (rest (mid from.base)) to.base (λ e. other (sym e)) ∙ with_at_same before to.base put to.base refl);
        others = λ c apart_from apart_to. sym (end c) ∙ (with_at_other mid from.base (rest (mid from.base)) c apart_from ∙ with_at_other before to.base put c apart_to);
      }

  by_item : (item : Option ℕ) → IsItemOf from.capacity k item → RunsOnLists before (move_calls from to b n m k v item) after → IsMoved from.base to.base v before after
  by_item (Some w) is r = left_is (λ c. ap (λ (f : ℕ → List ℕ). f c) r.1.1.1) r.0.list.0 r.0.list.1
  by_item None is r =
      let long : length (v ∷ r.0.list.0) ≡ k = ap length (sym (kept ∙ r.0.list.1)) ∙ r.1.1.0.had in
      absurd (omega (arith, long, is))

pub moves : MovesMoveTheTop
moves from to b n m k v item before after other is r = by_item from to b n m k v before after other item is r
