-- What a load of a word leaves of a view.
use Rattle.std.proofs.lemmas.Bool.Decides.{nat_tests}
use Rattle.cell_table.specs.Sorted.{insert_by}
use Rattle.cell_table.specs.Steps.{cell_key}
use Rattle.std.proofs.Common.{◌≡◌, ℕ, ◌-◌, ◌*◌, ◌/◌, ◌%◌, ◌<◌, ◌≤◌, eqb, leb, suc, length, get_or, Bool, true, false, cond, List, [], ◌∷◌, inl, inr, refl, sym, ap, subst, ◌∙◌, arith}
use Rattle.cell_table.specs.Sorted.{Among, Each}
use Rattle.cell_table.specs.declared.view.View.{View}
use Rattle.cell_table.specs.declared.view.Stage.{Stage}
use Rattle.cell_table.specs.declared.view.Stage.TheVariants.{Open, Drawn, Decided}
use Rattle.cell_table.specs.declared.view.OpenRead.{OpenRead}
use Rattle.cell_table.specs.declared.view.OpenRead.TheVariants.{NoRead, LockRead, ValueRead}
use Rattle.cell_table.specs.Steps.{Triples, Grows, Validated, Observes, looked, valued, missed, free_look, held_look, add_read, add_kept, add_held, add_validation}
use Rattle.cell_table.specs.Pass.{PassState, with_view}
use Rattle.cell_table.specs.Cells.{has}
use Rattle.cell_table.specs.Rule.{cells_of}
use Rattle.cell_table.specs.Steps.{taken, drawn, validate_all, validate_open, clocked}
use Rattle.tx_core.specs.Causes.{begun_of}
use Rattle.tx_core.specs.Seen.{IsLooked, LooksOnly, KnowsMore, StandsAt, IsSeen, Takes}
use Rattle.std.proofs.lemmas.Bool.{cases_lt}
use Rattle.tx_core.specs.Facts.{grows_trans}

-- a list of triples keeps what it has
abbrev pub HasAll : Triples → Triples → Type 0
HasAll xs ys = (t : ℕ × ℕ × ℕ) → Among t xs → Among t ys

has_all_cond : (b : Bool) (x : ℕ × ℕ × ℕ) (xs : Triples) → HasAll xs (cond b (x ∷ xs) xs)
has_all_cond true x xs t h = inr h
has_all_cond false x xs t h = h

pub has_all_validation : (c u known : ℕ) (ss : Triples) → HasAll ss (add_validation c u known ss)
has_all_validation c u known ss = has_all_cond (leb u known) (c, u, known) ss

has_all_cond_cond : (a b : Bool) (x : ℕ × ℕ × ℕ) (xs : Triples) → HasAll xs (cond a (cond b (x ∷ xs) xs) xs)
has_all_cond_cond true b x xs t h = has_all_cond b x xs t h
has_all_cond_cond false b x xs t h = h

has_all_read : (o : OpenRead) (c u : ℕ) (vs : Triples) → HasAll vs (add_read o c u vs)
has_all_read NoRead c u vs t h = h
has_all_read (LockRead d w) c u vs t h = h
has_all_read (ValueRead d w x) c u vs t h = has_all_cond_cond (eqb d c) (eqb w u) (c, u, x) vs t h

has_all_kept : (held : List (ℕ × ℕ)) (c x : ℕ) (vs : Triples) → HasAll vs (add_kept held c x vs)
has_all_kept [] c x vs t h = h
has_all_kept (k ∷ ks) c x vs t h = kept (eqb k.0 c) (has_all_kept ks c x vs t h)
  where
    kept : (b : Bool) → Among t (add_kept ks c x vs) → Among t (cond b ((k.0, k.1, x) ∷ add_kept ks c x vs) (add_kept ks c x vs))
    kept true g = inr g
    kept false g = g

has_all_held : {D : Type 0} → (st : Stage D) (held : List (ℕ × ℕ)) (c x : ℕ) (vs : Triples) → HasAll vs (add_held st held c x vs)
has_all_held Open held c x vs = has_all_kept held c x vs
has_all_held (Drawn u) held c x vs = has_all_kept held c x vs
has_all_held (Decided u r stored) held c x vs = λ t h. h

module _ {M D : Type 0} where
  pub looked_is : (v : View M D) (c r : ℕ) → IsLooked v (looked v c r)
  looked_is v c r = at (eqb (r % 2) 0)
    where
      at : (b : Bool) → IsLooked v (cond b (free_look v c r) (held_look v c r))
      at true = record {
        grows = record { meaning = refl; opening = refl; total = refl; known = omega arith; values = has_all_read v.reading c (r / 2) v.values; validations = has_all_validation c (r / 2) v.known v.validations };
        books = refl;
        draws = refl;
        known = refl;
        held = refl;
        stage = refl;
        begun = refl;
      }
      at false = record {
        grows = record { meaning = refl; opening = refl; total = refl; known = omega arith; values = λ t h. h; validations = λ t h. h };
        books = refl;
        draws = refl;
        known = refl;
        held = refl;
        stage = refl;
        begun = refl;
      }

  pub valued_is : (v : View M D) (c x : ℕ) → IsLooked v (valued v c x)
  valued_is v c x = record {
    grows = record { meaning = refl; opening = refl; total = refl; known = omega arith; values = has_all_held v.stage v.held c x v.values; validations = λ t h. h };
    books = refl;
    draws = refl;
    known = refl;
    held = refl;
    stage = refl;
    begun = refl;
  }

  pub missed_is : (v : View M D) (c r : ℕ) → IsLooked v (missed v c r)
  missed_is v c r = record {
    grows = record { meaning = refl; opening = refl; total = refl; known = omega arith; values = λ t h. h; validations = at (eqb (r % 2) 0) };
    books = refl;
    draws = refl;
    known = refl;
    held = refl;
    stage = refl;
    begun = refl;
  }
    where
      at : (b : Bool) → HasAll v.validations (cond b (add_validation c (r / 2) v.known v.validations) v.validations)
      at true = has_all_validation c (r / 2) v.known v.validations
      at false = λ t h. h

  -- one step, from what its clause says of the pass
  pub looks_by : (p q : PassState M D) (w : View M D) → q ≡ with_view p w → IsLooked p.view w → LooksOnly p q
  looks_by p q w is h =
      let at : q.view ≡ w = ap (λ (s : PassState M D). s.view) is in
      (is ∙ ap (with_view p) (sym at), subst (λ (x : View M D). IsLooked p.view x) (sym at) h)

  -- what stands keeps standing
  pub stands_grows : (v w : View M D) (version c x u : ℕ) → Grows v w → StandsAt v version c x u → StandsAt w version c x u
  stands_grows v w version c x u g s = record {
    there = rw g.opening s.there;
    reads = g.values _ s.reads;
    low = s.low;
    small = s.small;
    upto = s.upto;
    far = s.far;
    near = omega (arith, s.near, g.known);
    validated = g.validations _ s.validated;
  }

  -- what stands is observed
  pub observes_of : (v : View M D) (version c x u : ℕ) → StandsAt v version c x u → Observes v c x version
  observes_of v version c x u s = (u, s.upto, s.reads, s.validated, s.low, s.far)

module _ {M D : Type 0} where
  -- what stands is seen, also where more cells are held later
  pub seen_stands : (v : View M D) (version c x u : ℕ) → StandsAt v version c x u → IsSeen v version c x u
  seen_stands v version c x u s = record {
    there = s.there;
    reads = s.reads;
    small = s.small;
    stands = λ low. s;
    held = λ above. absurd (omega (arith, s.low));
  }

  pub seen_grows : (v w : View M D) (version c x u : ℕ) → Grows v w → (has c (cells_of v.held) ≡ true → has c (cells_of w.held) ≡ true) → IsSeen v version c x u → IsSeen w version c x u
  seen_grows v w version c x u g keeps s = record {
    there = rw g.opening s.there;
    reads = g.values _ s.reads;
    small = s.small;
    stands = λ low. stands_grows v w version c x u g (s.stands low);
    held = λ above. keeps (s.held above);
  }

  -- what was seen of a cell that isn't held stands
  pub stands_unheld : (v : View M D) (version c x u : ℕ) → IsSeen v version c x u → has c (cells_of v.held) ≡ false → StandsAt v version c x u
  stands_unheld v version c x u s free = elim (cases_lt version u) [
    | inl above ↦ true_and_false (s.held above) free
    | inr low ↦ s.stands low
  ]
    where
      true_and_false : {b : Bool} → b ≡ true → b ≡ false → StandsAt v version c x u
      true_and_false e f = cc

pub not_both : {A : Type 0} {b : Bool} → b ≡ true → b ≡ false → A
not_both e f = cc

validated_if : (b : Bool) (c u known : ℕ) (ss : Triples) → b ≡ true → Among (c, u, known) (cond b ((c, u, known) ∷ ss) ss)
validated_if true c u known ss e = inl refl
validated_if false c u known ss e = cc

module _ {M D : Type 0} where
  -- what an exchange that missed, and one that took, tell of the newest version
  pub missed_validates : (v : View M D) (c r u : ℕ) → r ≡ 2 * u → u ≤ v.known → Validated (missed v c r) c u v.known
  missed_validates v c r u is le =
      let half : r / 2 ≡ u = rw is (omega arith) in
      let even : eqb (r % 2) 0 ≡ true = rw is (grind (arith, nat_tests)) in
      rw (even, half) (validated_if (leb u v.known) c u v.known v.validations (grind (arith, nat_tests)))

  pub takes_by : (p q : PassState M D) (c u : ℕ) → q ≡ record p { view = taken p.view c u; places = p.places - 1 } → has c (cells_of p.view.held) ≡ false → Takes p q c u
  takes_by p q c u is other =
      let at : q.view ≡ taken p.view c u = ap (λ (s : PassState M D). s.view) is in
      record {
        is = is ∙ ap (λ (v : View M D). record p { view = v; places = p.places - 1 }) (sym at);
        grows = rw at (record { meaning = refl; opening = refl; total = refl; known = omega arith; values = λ t h. h; validations = has_all_validation c u p.view.known p.view.validations });
        books = ap (λ (v : View M D). v.books) at;
        draws = ap (λ (v : View M D). v.draws) at;
        known = ap (λ (v : View M D). v.known) at;
        stage = ap (λ (v : View M D). v.stage) at;
        begun = ap (λ (v : View M D). begun_of v.trail) at;
        held = ap (λ (v : View M D). v.held) at;
        other = other;
      }

  pub looks_then_takes : (p q r : PassState M D) (c u : ℕ) → LooksOnly p q → Takes q r c u → Takes p r c u
  looks_then_takes p q r c u a b = record {
    is = b.is ∙ ap (λ (s : PassState M D). record s { view = r.view; places = s.places - 1 }) a.0;
    grows = grows_trans p.view q.view r.view a.1.grows b.grows;
    books = b.books ∙ a.1.books;
    draws = b.draws ∙ a.1.draws;
    known = b.known ∙ a.1.known;
    stage = b.stage ∙ a.1.stage;
    begun = b.begun ∙ a.1.begun;
    held = b.held ∙ ap (λ h. insert_by cell_key (c, u) h) a.1.held;
    other = rw (← a.1.held) b.other;
  }

-- what holds of each entry by its place
pub each_from_places : (P : ℕ × ℕ → Type 0) (es : List (ℕ × ℕ)) → ((i : ℕ) → i < length es → P (get_or es i (0, 0))) → Each P es
each_from_places P [] h = tt
each_from_places P (e ∷ es) h = (h 0 (omega arith), each_from_places P es (λ i lt. h (suc i) (omega arith)))

has_all_all : (held : List (ℕ × ℕ)) (p : ℕ) (ss : Triples) → HasAll ss (validate_all held p ss)
has_all_all [] p ss t h = h
has_all_all (k ∷ ks) p ss t h = inr (has_all_all ks p ss t h)

pub drawn_grows : {M D : Type 0} (v : View M D) (d : ℕ) → v.known < d → Grows v (drawn v d)
drawn_grows v d later = record { meaning = refl; opening = refl; total = refl; known = omega arith; values = λ t h. h; validations = has_all_all v.held (d - 1) v.validations }

has_all_open : {D : Type 0} (st : Stage D) (held : List (ℕ × ℕ)) (p : ℕ) (ss : Triples) → HasAll ss (validate_open st held p ss)
has_all_open Open held p ss = has_all_all held p ss
has_all_open (Drawn u) held p ss = λ t h. h
has_all_open (Decided u r stored) held p ss = λ t h. h

module _ {M D : Type 0} where
  -- a load of the clock
  pub clocked_knows : (p q : PassState M D) (r : ℕ) → q ≡ with_view p (clocked p.view r) → p.view.known ≤ r → KnowsMore p q
  clocked_knows p q r is later =
      let view : q.view ≡ clocked p.view r = ap (λ (s : PassState M D). s.view) is in
      record {
        is = is ∙ ap (with_view p) (sym view);
        grows = rw view (record { meaning = refl; opening = refl; total = refl; known = later; values = λ t h. h; validations = has_all_open p.view.stage p.view.held r p.view.validations });
        books = ap (λ (v : View M D). v.books) view;
        draws = ap (λ (v : View M D). v.draws) view;
        held = ap (λ (v : View M D). v.held) view;
        stage = ap (λ (v : View M D). v.stage) view;
      }

  pub knows_then_looks : (p q r : PassState M D) → KnowsMore p q → LooksOnly q r → KnowsMore p r
  knows_then_looks p q r a b = record {
    is = b.0 ∙ ap (λ (s : PassState M D). with_view s r.view) a.is;
    grows = grows_trans p.view q.view r.view a.grows b.1.grows;
    books = b.1.books ∙ a.books;
    draws = b.1.draws ∙ a.draws;
    held = b.1.held ∙ a.held;
    stage = b.1.stage ∙ a.stage;
  }
