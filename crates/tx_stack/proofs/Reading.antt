-- A record is read as calls on stacks in one way only: no cell of an item is that of a length.
use Rattle.std.proofs.Common.{◌≡◌, ◌⊎◌, inl, inr, ⊎_elim, ℕ, ◌+◌, ◌-◌, ◌<◌, ◌≤◌, Bool, List, [], ◌∷◌, ◌++◌, sym, refl, ap, ◌∙◌, subst, arith}
use Rattle.serial_terms.specs.declared.call.Call.TheVariants.{CellGet, CellPut}
use Rattle.serial_terms.specs.declared.call.Reply.{Reply}
use Rattle.serial_terms.specs.declared.call.Reply.TheVariants.{Nothing, Value}
use Rattle.serial_terms.specs.declared.call.Done.{Done}
use Rattle.serial_terms.specs.Entries.{Each, OrderedBy, IsIn}
use Rattle.tx_stack.specs.declared.part.StackPart.{StackPart}
use Rattle.tx_stack.specs.Stacks.{AreApart, Act, counted, pushed, shown, popped, StackCall, HasRoom, made, more_calls, all_cell_calls, IsStackCall}
use Rattle.tx_stack.specs.Facts.{one_or_apart}
use Rattle.tx_stack.specs.Laws.{RecordsAreReadInOneWay}

parted : (d e : Done) (ds es : List Done) → d ∷ ds ≡ e ∷ es → (d.call ≡ e.call) × (d.reply ≡ e.reply) × (d.child ≡ e.child) × (ds ≡ es)
parted d e ds es same =
    let first : d ≡ e = cc in
    let more : ds ≡ es = cc in
    (ap (λ (x : Done). x.call) first, ap (λ (x : Done). x.reply) first, ap (λ (x : Done). x.child) first, more)

module _ (parts : List StackPart) (o : OrderedBy AreApart parts) where
  not_a_length : (p q : StackPart) → IsIn p parts → IsIn q parts → (n : ℕ) → 0 < n → n ≤ p.capacity → q.base ≡ p.base + n → ⊥
  not_a_length p q at other n some few e = ⊎_elim
      (λ same. let base : p.base ≡ q.base = ap (λ (z : StackPart). z.base) same in omega arith)
      (λ apart. ⊎_elim (λ a. omega arith) (λ a. omega arith) apart)
      (one_or_apart parts o p q at other)

  one_part : (p q : StackPart) → IsIn p parts → IsIn q parts → p.base ≡ q.base → p ≡ q
  one_part p q at other e = ⊎_elim
      (λ same. same)
      (λ apart. absurd (⊎_elim (λ a. omega arith) (λ a. omega arith) apart))
      (one_or_apart parts o p q at other)

  module _ (p : StackPart) (at : IsIn p parts) (n : ℕ) (b : Bool) where
    -- the next call on a stack begins by neither of these
    no_get : (v : ℕ) (cs : List StackCall) (ds : List Done) → Each (IsStackCall parts) cs → 0 < n → n ≤ p.capacity → all_cell_calls cs ≡ made p n b (CellGet (p.base + n)) (Value v) ∷ ds → ⊥
    no_get v [] ds each some few e = absurd (cc)
    no_get v (c ∷ cs) ds each some few e =
        let calls : CellGet c.part.base ≡ CellGet (p.base + n) = (parted _ _ _ _ e).0 in
        let same : c.part.base ≡ p.base + n = cc in
        not_a_length p c.part at each.0.part n some few same

    no_put : (k v : ℕ) (cs : List StackCall) (ds : List Done) → all_cell_calls cs ≡ made p n b (CellPut k v) Nothing ∷ ds → ⊥
    no_put k v [] ds e = absurd (cc)
    no_put k v (c ∷ cs) ds e =
        let calls : CellGet c.part.base ≡ CellPut k v = (parted _ _ _ _ e).0 in
        absurd (cc)

    same_acts : (x y : Act) → HasRoom p n x → HasRoom p n y → (xs ys : List StackCall) → Each (IsStackCall parts) xs → Each (IsStackCall parts) ys
        → more_calls p n b x ++ all_cell_calls xs ≡ more_calls p n b y ++ all_cell_calls ys → (x ≡ y) × (all_cell_calls xs ≡ all_cell_calls ys)
    same_acts counted counted rx ry xs ys ea eb e = (refl, e)
    same_acts counted (pushed w) rx ry xs ys ea eb e = absurd (no_put _ _ xs _ e)
    same_acts counted (shown w) rx ry xs ys ea eb e = absurd (no_get w xs _ ea ry.0 ry.1 e)
    same_acts counted (popped w) rx ry xs ys ea eb e = absurd (no_get w xs _ ea ry.0 ry.1 e)
    same_acts (pushed v) counted rx ry xs ys ea eb e = absurd (no_put _ _ ys _ (sym e))
    same_acts (pushed v) (pushed w) rx ry xs ys ea eb e =
        let is = parted _ _ _ _ e in
        let calls : CellPut (p.base + 1 + n) v ≡ CellPut (p.base + 1 + n) w = is.0 in
        let value : v ≡ w = cc in
        let more = (parted _ _ _ _ is.3).3 in
        (ap pushed value, more)
    same_acts (pushed v) (shown w) rx ry xs ys ea eb e =
        let calls : CellPut (p.base + 1 + n) v ≡ CellGet (p.base + n) = (parted _ _ _ _ e).0 in
        absurd (cc)
    same_acts (pushed v) (popped w) rx ry xs ys ea eb e =
        let calls : CellPut (p.base + 1 + n) v ≡ CellGet (p.base + n) = (parted _ _ _ _ e).0 in
        absurd (cc)
    same_acts (shown v) counted rx ry xs ys ea eb e = absurd (no_get v ys _ eb rx.0 rx.1 (sym e))
    same_acts (shown v) (pushed w) rx ry xs ys ea eb e =
        let calls : CellGet (p.base + n) ≡ CellPut (p.base + 1 + n) w = (parted _ _ _ _ e).0 in
        absurd (cc)
    same_acts (shown v) (shown w) rx ry xs ys ea eb e =
        let is = parted _ _ _ _ e in
        let replies : Value v ≡ Value w = is.1 in
        let value : v ≡ w = cc in
        let more = is.3 in
        (ap shown value, more)
    same_acts (shown v) (popped w) rx ry xs ys ea eb e =
        absurd (no_put _ _ xs _ (parted _ _ _ _ e).3)
    same_acts (popped v) counted rx ry xs ys ea eb e = absurd (no_get v ys _ eb rx.0 rx.1 (sym e))
    same_acts (popped v) (pushed w) rx ry xs ys ea eb e =
        let calls : CellGet (p.base + n) ≡ CellPut (p.base + 1 + n) w = (parted _ _ _ _ e).0 in
        absurd (cc)
    same_acts (popped v) (shown w) rx ry xs ys ea eb e =
        absurd (no_put _ _ ys _ (sym (parted _ _ _ _ e).3))
    same_acts (popped v) (popped w) rx ry xs ys ea eb e =
        let is = parted _ _ _ _ e in
        let replies : Value v ≡ Value w = is.1 in
        let value : v ≡ w = cc in
        let more = (parted _ _ _ _ is.3).3 in
        (ap popped value, more)

  one_way : (xs ys : List StackCall) → Each (IsStackCall parts) xs → Each (IsStackCall parts) ys → all_cell_calls xs ≡ all_cell_calls ys → xs ≡ ys
  one_way [] [] ea eb e = refl
  one_way [] (b ∷ ys) ea eb e = absurd (cc)
  one_way (a ∷ xs) [] ea eb e = absurd (cc)
  one_way (a ∷ xs) (b ∷ ys) ea eb e =
      let is = parted _ _ _ _ e in
      let calls : CellGet a.part.base ≡ CellGet b.part.base = is.0 in
      let replies : Value a.had ≡ Value b.had = is.1 in
      let base : a.part.base ≡ b.part.base = cc in
      let had : a.had ≡ b.had = cc in
      let child = is.2 in
      let part = one_part a.part b.part ea.0.part eb.0.part base in
      let more = is.3 in
      let alike : more_calls a.part a.had a.child b.act ≡ more_calls b.part b.had b.child b.act = λ i. more_calls (part i) (had i) (child i) b.act in
      let acts = same_acts a.part ea.0.part a.had a.child a.act b.act ea.0.room (rw (part, had) eb.0.room) xs ys ea.1 eb.1 (more ∙ ap (λ (ds : List Done). ds ++ all_cell_calls ys) (sym alike)) in
      let rest = one_way xs ys ea.1 eb.1 acts.1 in
      λ i. record { part = part i; had = had i; child = child i; act = acts.0 i } ∷ rest i

pub read_one_way : RecordsAreReadInOneWay
read_one_way parts o dones xs ys a b = one_way parts o xs ys a.each b.each (sym a.all ∙ b.all)
