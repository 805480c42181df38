-- An attempt that goes back to its mark, and one whose version is raised.
use Rattle.std.proofs.Common.{◌≡◌, ℕ, zero, suc, ◌<◌, ◌≤◌, Bool, true, false, List, [], ◌∷◌, length, take, slice_index, is_some, All, inl, inr, sym, ap, ◌∙◌, arith, get_or-take, length-take-le}
use Rattle.std.specs.Map.{keys_of}
use Rattle.cell_table.specs.Cells.{has}
use Rattle.cell_table.specs.Sorted.{Among}
use Rattle.cell_table.specs.Rule.{cells_of}
use Rattle.cell_table.specs.declared.view.View.{View}
use Rattle.cell_table.specs.declared.view.Stage.{Stage}
use Rattle.cell_table.specs.declared.view.Stage.TheVariants.{Open, Drawn, Decided}
use Rattle.cell_table.specs.Steps.{Triples, Validated, clocked, validate_all, validate_open}
use Rattle.cell_table.specs.Pass.{TableState, PassState, IsPassOf}
use Rattle.attempt_lists.specs.Cells.{Entries, Listed, word_at, word_of, cell_at}
use Rattle.attempt_lists.specs.Levels.{Levels}
use Rattle.attempt_lists.specs.Observed.{Observed}
use Rattle.attempt_lists.specs.Parts.{Waiting, waiting_of, marked_of}
use Rattle.tx_core.specs.declared.child.Mark.{Mark}
use Rattle.tx_core.specs.declared.spare.Spare.{Spare}
use Rattle.tx_core.specs.Additions.{IsProvided}
use Rattle.tx_core.specs.Children.{held_of, IsMarked}
use Rattle.tx_core.specs.Seen.{Releases}
use Rattle.tx_core.specs.Tx.{IsAttempt}
use Rattle.tx_core.proofs.Looks.{seen_stands, stands_grows}
use Rattle.tx_core.proofs.HeldCells.{has_held_of}
use Rattle.tx_core.proofs.Providing.{two_same}

all_take : (P : ℕ → Type 0) (n : ℕ) (es : Entries) → All P (keys_of es) → All P (keys_of (take n es))
all_take P zero es all = λ k d lt. absurd (omega arith)
all_take P (suc n) [] all = all
all_take P (suc n) (e ∷ es) all = first (all 0 0 (omega arith)) (all_take P n es (λ k d lt. all (suc k) d (omega arith)))
  where
    first : P e.0 → All P (keys_of (take n es)) → All P (keys_of (e ∷ take n es))
    first here tail zero d lt = here
    first here tail (suc k) d lt = tail k d (omega arith)

module _ {M D : Type 0} (table : TableState M) (version : ℕ) where
  -- the lists are cut, and the cells that were locked since the mark are given back
  pub attempt_back : (p q : PassState M D) (reads back : Observed) (writes under : Entries) (held left : Listed) (committing : Bool) (m : Mark) (ns : List D) → committing ≡ false → IsAttempt table p version reads writes held committing → IsMarked (length table.opening) m reads.observations under held.entries ns
      → IsPassOf table q → Releases p q → q.view.held ≡ held_of left.entries → left.entries ≡ take m.held held.entries → back.observations ≡ take m.observations reads.observations → back.versions ≡ take m.observations reads.versions → IsAttempt table q version back under left committing
  attempt_back p q reads back writes under held left committing m ns before a k of r listed entries observations versions =
      let stage : q.view.stage ≡ Open = r.opens (a.nothing_drawn before) in
      record {
        of = of;
        begun = (rw r.gives.seen a.begun.0, rw r.gives.known a.begun.1);
        observed = λ i lt. let low = short i lt in rw (cell i lt, word i lt, number i lt) (seen_stands q.view version _ _ _ (stands_grows p.view q.view version _ _ _ r.gives.grows ((a.observed i low.1).stands (a.early before i low.1))));
        written = k.written;
        listed = listed;
        holds = holds;
        in_table = rw entries (all_take (λ c. c < length table.opening) m.held held.entries a.in_table);
        sized = rw (observations, versions) (length-take-le m.observations reads.versions (omega (arith, k.observations, a.sized)) ∙ sym (length-take-le m.observations reads.observations k.observations));
        met = λ c r w. holds c ∙ ap (λ (es : Entries). is_some (word_at es c)) entries ∙ ap is_some (k.met c (rw observations at r) w);
        pinned = λ i lt h.
            let low = short i lt in
            let mine : has (cell_at reads.observations i) (cells_of q.view.held) ≡ true = rw (cell i lt) at h in
            rw (cell i lt, number i lt) (r.kept (cell_at reads.observations i, slice_index reads.versions i) (a.pinned i low.1 (r.fewer (cell_at reads.observations i) mine)) mine);
        undecided = rw stage tt;
        undrawn = λ none. stage;
        nothing_drawn = λ e. stage;
        early = λ e i lt. let low = short i lt in rw (number i lt) (a.early before i low.1);
        reserved = rw r.gives.reserved a.reserved;
      }
    where
      holds : (c : ℕ) → has c (cells_of q.view.held) ≡ is_some (word_at left.entries c)
      holds c = ap (λ (h : List (ℕ × ℕ)). has c (cells_of h)) listed ∙ has_held_of left.entries c

      short : (i : ℕ) → i < length back.observations → (i < m.observations) × (i < length reads.observations)
      short i lt = let long = length-take-le m.observations reads.observations k.observations in (omega (arith, lt, ap length observations, long), omega (arith, lt, ap length observations, long, k.observations))

      cell : (i : ℕ) → i < length back.observations → cell_at back.observations i ≡ cell_at reads.observations i
      cell i lt = ap (λ (es : Entries). cell_at es i) observations ∙ ap (λ (e : ℕ × ℕ). e.0) (get_or-take m.observations reads.observations i (0, 0) (short i lt).0)

      word : (i : ℕ) → i < length back.observations → word_of back.observations i ≡ word_of reads.observations i
      word i lt = ap (λ (es : Entries). word_of es i) observations ∙ ap (λ (e : ℕ × ℕ). e.1) (get_or-take m.observations reads.observations i (0, 0) (short i lt).0)

      number : (i : ℕ) → i < length back.observations → slice_index back.versions i ≡ slice_index reads.versions i
      number i lt = ap (λ (vs : List ℕ). slice_index vs i) versions ∙ get_or-take m.observations reads.versions i 0 (short i lt).0

  -- all that was observed stands at the new version
  pub attempt_raises : (p : PassState M D) (reads : Observed) (writes : Entries) (held : Listed) (committing : Bool) (t : ℕ) → committing ≡ false → version ≤ t → (p.seen ≤ t) × (t ≤ p.view.known) → ((i : ℕ) → i < length reads.observations → Validated p.view (cell_at reads.observations i) (slice_index reads.versions i) t) → IsAttempt table p version reads writes held committing → IsAttempt table p t reads writes held committing
  attempt_raises p reads writes held committing t before later begun valid a = record {
    of = a.of;
    begun = begun;
    observed = λ i lt.
        let s = a.observed i lt in
        let low = a.early before i lt in
        seen_stands p.view t _ _ _ (record { there = s.there; reads = s.reads; low = omega (arith, low, later); small = s.small; upto = t; far = omega arith; near = begun.1; validated = valid i lt });
    written = a.written;
    listed = a.listed;
    holds = a.holds;
    in_table = a.in_table;
    sized = a.sized;
    met = a.met;
    pinned = a.pinned;
    undecided = a.undecided;
    undrawn = a.undrawn;
    nothing_drawn = a.nothing_drawn;
    early = λ e i lt. omega (arith, a.early e i lt, later);
    reserved = a.reserved;
  }

module _ {M D : Type 0} where
  -- what waited at the mark has the room that was kept for it
  pub provided_back : (p q : PassState M D) (reads back : Observed) (writes wrote : Levels) (held left : Listed) (additions more : List Waiting) (spare : Spare) (committing : Bool) → IsProvided p reads writes held additions spare committing → p.places ≤ q.places → left.reserved ≡ held.reserved → back.reserved ≡ reads.reserved → wrote.reserved ≡ writes.reserved → wrote.parent ≡ writes.parent → wrote.child ≡ []
      → ((part : ℕ) → waiting_of more part ≡ marked_of additions part) → ((part : ℕ) → marked_of more part ≡ marked_of additions part) → IsProvided q back wrote left more spare committing
  provided_back p q reads back writes wrote held left additions more spare committing a places locks observations written parent child waits marks = record {
    locks = omega (arith, a.locks, places, locks);
    spare_locks = rw locks a.spare_locks;
    spare_observations = rw observations a.spare_observations;
    spare_writes = rw written a.spare_writes;
    few = a.few;
    room = λ before. omega (arith, a.room before, locks, ap length parent, ap length child);
    twice = λ before. two_same spare (marked_of additions) (waiting_of more) (a.marked before) waits;
    marked = λ before. two_same spare (marked_of additions) (marked_of more) (a.marked before) marks;
  }

validates : (held : List (ℕ × ℕ)) (c u r : ℕ) (ss : Triples) → Among (c, u) held → Among (c, u, r) (validate_all held r ss)
validates [] c u r ss h = absurd h
validates (t ∷ ts) c u r ss (inl is) = inl (ap (λ (x : ℕ × ℕ). (x.0, x.1, r)) is)
validates (t ∷ ts) c u r ss (inr h) = inr (validates ts c u r ss h)

validates_open : {D : Type 0} (st : Stage D) (held : List (ℕ × ℕ)) (c u r : ℕ) (ss : Triples) → st ≡ Open → Among (c, u) held → Among (c, u, r) (validate_open st held r ss)
validates_open Open held c u r ss free h = validates held c u r ss h
validates_open (Drawn d) held c u r ss free h = cc
validates_open (Decided d e s) held c u r ss free h = cc

-- a load of the clock validates what is held
pub clocked_validates : {M D : Type 0} (v : View M D) (c u r : ℕ) → v.stage ≡ Open → Among (c, u) v.held → Validated (clocked v r) c u r
clocked_validates v c u r free h = validates_open v.stage v.held c u r v.validations free h
