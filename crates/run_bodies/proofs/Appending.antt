-- Values are appended to the log in a child.
use Rattle.std.proofs.Common.{◌≡◌, ℕ, ◌+◌, ◌<◌, eqb, List, [], ◌∷◌, ◌++◌, length, get_or, take, refl, sym, ap, ◌∙◌, subst, arith}
use Rattle.std.specs.Prelude.{Result, Ok, Err, None, Some, true}
use Rattle.std.proofs.lemmas.Bool.Decides.{nat_tests}
use Rattle.std.proofs.lemmas.List.{take_more}
use Rattle.serial_terms.specs.declared.call.Call.{Call}
use Rattle.serial_terms.specs.declared.call.Call.TheVariants.{AppendPlaced}
use Rattle.serial_terms.specs.declared.call.Done.{Done}
use Rattle.serial_terms.specs.declared.call.Reply.{Reply}
use Rattle.serial_terms.specs.declared.call.Reply.TheVariants.{Value}
use Rattle.serial_terms.specs.Serial as serial
use Rattle.store_layout.specs.Shapes.{Shape, Object}
use Rattle.store_parts.specs.Parts.{noted}
use Rattle.run_stages.specs.Allowed.{Appends}
use Rattle.run_stages.specs.Work.{Work}
use Rattle.tx_core.specs.Calls.{MayCall, stop_in}
use Rattle.tx_core.specs.declared.stop.Stop.{Stop}
use Rattle.tx_core.specs.declared.stop.TxState.{TxState}
use Rattle.tx_nest.specs.Attempts.{IsInChild}
use Rattle.tx_store.specs.BodyFacts.{done_of}
use Rattle.tx_store.specs.Calls.{IsCalled, done_in, in_child}
use Rattle.tx_store.specs.ChildLaws.{called_in_child, stopped_in_child}
use Rattle.tx_store.specs.Children.{view_of, HasMark}
use Rattle.tx_store.specs.Stores.{TxView}
use Rattle.run_bodies.specs.InChild.{DoesInChild, ActsInChild}
use Rattle.run_bodies.specs.Matching.{AppendsInChild}
use Rattle.run_bodies.proofs.ChildCalls.{does_nothing, acts_then}

pub may_call_in_child : {M : Type 0} (a : TxView M) → IsInChild (view_of a) → MayCall a.attempt
may_call_in_child a child = record { open_now = rw child.child refl; before_commit = child.before_commit }

-- a call on a structure that has no keys
pub acts_called : {M A : Type 0} (s : Shape) (o : Object) (n : ℕ) (a b : TxView M) (call : Call) (reply : A → Reply) (result : Result A Stop) → IsInChild (view_of a) → HasMark a
    → IsCalled s o n a b (done_in (λ x. noted call (reply x) (in_child a.attempt.state) 0) result) (stop_in result) → ActsInChild a b (λ x. serial.in_child call (reply x) ∷ []) result
acts_called s o n a b call reply (Ok answer) child mark is =
    let went = called_in_child s o n a b _ None is child.before_commit mark in
    record {
      goes = record { stays = went.0; mark = went.1; grows = went.2 };
      state = is.holds.ends ∙ child.child;
      added = noted call (reply answer) (in_child a.attempt.state) 0 ∷ [];
      notes = is.notes;
      keyed = ap (λ (state : TxState). done_of (record { call = call; reply = reply answer }) (in_child state) ∷ []) child.child;
    }
acts_called s o n a b call reply (Err stop) child mark is =
    let went = called_in_child s o n a b [] (Some stop) is child.before_commit mark in
    record {
      goes = record { stays = went.0; mark = went.1; grows = went.2 };
      cause = stopped_in_child s o n a b [] stop is child.child;
      sole = is.holds.ends.sole;
    }

appends_more : (w : Work) (values : List ℕ) (calls : List Done) (value : ℕ) (d : Done) → Appends w values calls → d.call ≡ AppendPlaced 0 value → d.child ≡ true → Appends w (values ++ value ∷ []) (calls ++ d ∷ [])
appends_more w [] [] value d are call child = (call, child, tt)
appends_more w [] (e ∷ es) value d are call child = absurd are
appends_more w (v ∷ vs) [] value d are call child = absurd are
appends_more w (v ∷ vs) (e ∷ es) value d are call child = (are.0, are.1, appends_more w vs es value d are.2 call child)

pub none_left : (xs : List ℕ) → eqb (length xs) 0 ≡ true → xs ≡ []
none_left [] e = refl
none_left (x ∷ xs) e = absurd (let n : length (x ∷ xs) ≡ 0 = grind (arith, nat_tests) in omega arith)

module _ {M : Type 0} where
  pub appends_none : (a : TxView M) → IsInChild (view_of a) → HasMark a → AppendsInChild [] a a
  appends_none a child mark = record { calls = []; does = does_nothing a child mark; appends = λ w. tt }

  appends_next : (values : List ℕ) (a b d : TxView M) (value place : ℕ) → AppendsInChild values a b → DoesInChild b d (serial.in_child (AppendPlaced 0 value) (Value place) ∷ []) → AppendsInChild (values ++ value ∷ []) a d
  appends_next values a b d value place so_far next = record {
    calls = so_far.calls ++ serial.in_child (AppendPlaced 0 value) (Value place) ∷ [];
    does = acts_then a b d so_far.calls (λ p. serial.in_child (AppendPlaced 0 value) (Value p) ∷ []) (Ok place) so_far.does next;
    appends = λ w. appends_more w values so_far.calls value (serial.in_child (AppendPlaced 0 value) (Value place)) (so_far.appends w) refl refl;
  }

  -- of values in a row
  pub appends_at : (values : List ℕ) (k other : ℕ) (a b d : TxView M) (place : ℕ) → k < length values → AppendsInChild (take k values) a b
      → DoesInChild b d (serial.in_child (AppendPlaced 0 (get_or values k other)) (Value place) ∷ []) → AppendsInChild (take (k + 1) values) a d
  appends_at values k other a b d place there so_far next =
      subst (λ (vs : List ℕ). AppendsInChild vs a d) (sym (take_more values k other there)) (appends_next (take k values) a b d (get_or values k other) place so_far next)
