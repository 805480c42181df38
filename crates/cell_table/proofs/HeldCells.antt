-- Lists of held cells, each with the version that it had.
use Rattle.std.proofs.Common.{◌≡◌, ◌≢◌, ℕ, Bool, true, cond, ltb, List, [], ◌∷◌, inl, inr, ⊎_elim, sym, ap, ◌∙◌, subst, eq-eqb, ne_eqb}
use mathlib.Core.Logic.{dite}
use native.Mathlib.Decide.{ℕ_discrete}
use Rattle.cell_table.specs.Sorted.{Each, Among, insert_by}
use Rattle.cell_table.specs.Cells.{has}
use Rattle.cell_table.specs.Rule.{cells_of, without}
use Rattle.cell_table.specs.Steps.{cell_key, kept_in}
use Rattle.cell_table.proofs.Histories.{bool_cases}

pub has_first : (c d : ℕ) (ds : List ℕ) → d ≡ c → has c (d ∷ ds) ≡ true
has_first c d ds e = ap (λ (b : Bool). cond b true (has c ds)) (eq-eqb d c e)

pub has_later : (c d : ℕ) (ds : List ℕ) → has c ds ≡ true → has c (d ∷ ds) ≡ true
has_later c d ds h = dite (ℕ_discrete d c) (λ e. has_first c d ds e) (λ ne. ap (λ (b : Bool). cond b true (has c ds)) (ne_eqb d c ne) ∙ h)

-- a cell of the list, and what is known of it
pub each_has : (P : ℕ × ℕ → Type 0) (c : ℕ) (ts : List (ℕ × ℕ)) → has c (cells_of ts) ≡ true → Each P ts → (t : ℕ × ℕ) × (t.0 ≡ c) × P t
each_has P c [] h e = absurd (cc)
each_has P c (t ∷ ts) h e = dite (ℕ_discrete t.0 c) (λ is. (t, is, e.0)) (λ ne. each_has P c ts (sym (ap (λ (b : Bool). cond b true (has c (cells_of ts))) (ne_eqb t.0 c ne)) ∙ h) e.1)

pub each_without : (P : ℕ × ℕ → Type 0) (c : ℕ) (ts : List (ℕ × ℕ)) → Each P ts → Each (λ t. (t.0 ≢ c) × P t) (without c ts)
each_without P c [] e = tt
each_without P c (t ∷ ts) e = let Q : List (ℕ × ℕ) → Type 0 = Each (λ t. (t.0 ≢ c) × P t) in let rest = each_without P c ts e.1 in
    dite (ℕ_discrete t.0 c) (λ is. subst (λ (b : Bool). Q (cond b (without c ts) (t ∷ without c ts))) (sym (eq-eqb t.0 c is)) rest)
    (λ ne. subst (λ (b : Bool). Q (cond b (without c ts) (t ∷ without c ts))) (sym (ne_eqb t.0 c ne)) ((ne, e.0), rest))

pub has_without : (c d : ℕ) (ts : List (ℕ × ℕ)) → has d (cells_of (without c ts)) ≡ true → has d (cells_of ts) ≡ true
has_without c d [] h = h
has_without c d (t ∷ ts) h = dite (ℕ_discrete t.0 c)
    (λ is. has_later d t.0 (cells_of ts) (has_without c d ts (subst (λ (b : Bool). has d (cells_of (cond b (without c ts) (t ∷ without c ts))) ≡ true) (eq-eqb t.0 c is) h)))
    (λ ne. let g : has d (t.0 ∷ cells_of (without c ts)) ≡ true = subst (λ (b : Bool). has d (cells_of (cond b (without c ts) (t ∷ without c ts))) ≡ true) (ne_eqb t.0 c ne) h in
    dite (ℕ_discrete t.0 d) (λ e. has_first d t.0 (cells_of ts) e)
    (λ ne'. has_later d t.0 (cells_of ts) (has_without c d ts (sym (ap (λ (b : Bool). cond b true (has d (cells_of (without c ts)))) (ne_eqb t.0 d ne')) ∙ g))))

pub still_has : (c d : ℕ) (ts : List (ℕ × ℕ)) → d ≢ c → has d (cells_of ts) ≡ true → has d (cells_of (without c ts)) ≡ true
still_has c d [] n h = h
still_has c d (t ∷ ts) n h = dite (ℕ_discrete t.0 d)
    (λ is. let ne : t.0 ≢ c = λ e. n (sym is ∙ e) in subst (λ (b : Bool). has d (cells_of (cond b (without c ts) (t ∷ without c ts))) ≡ true) (sym (ne_eqb t.0 c ne)) (has_first d t.0 (cells_of (without c ts)) is))
    (λ no. let i = still_has c d ts n (sym (ap (λ (b : Bool). cond b true (has d (cells_of ts))) (ne_eqb t.0 d no)) ∙ h) in
    dite (ℕ_discrete t.0 c) (λ e. subst (λ (b : Bool). has d (cells_of (cond b (without c ts) (t ∷ without c ts))) ≡ true) (sym (eq-eqb t.0 c e)) i)
    (λ ne. subst (λ (b : Bool). has d (cells_of (cond b (without c ts) (t ∷ without c ts))) ≡ true) (sym (ne_eqb t.0 c ne)) (has_later d t.0 (cells_of (without c ts)) i)))

pub has_insert : (c u d : ℕ) (ts : List (ℕ × ℕ)) → has d (cells_of ts) ≡ true → has d (cells_of (insert_by cell_key (c, u) ts)) ≡ true
has_insert c u d [] h = absurd (cc)
has_insert c u d (t ∷ ts) h = let P : Bool → Type 0 = λ z. has d (cells_of (cond z ((c, u) ∷ t ∷ ts) (t ∷ insert_by cell_key (c, u) ts))) ≡ true in ⊎_elim
    (λ y. subst P (sym y) (has_later d c (cells_of (t ∷ ts)) h))
    (λ y. subst P (sym y) (dite (ℕ_discrete t.0 d) (λ e. has_first d t.0 (cells_of (insert_by cell_key (c, u) ts)) e)
    (λ n. has_later d t.0 (cells_of (insert_by cell_key (c, u) ts)) (has_insert c u d ts (sym (ap (λ (b : Bool). cond b true (has d (cells_of ts))) (ne_eqb t.0 d n)) ∙ h))))) (bool_cases (ltb c t.0))

pub has_inserted : (c u d : ℕ) (ts : List (ℕ × ℕ)) → d ≡ c → has d (cells_of (insert_by cell_key (c, u) ts)) ≡ true
has_inserted c u d [] e = has_first d c [] (sym e)
has_inserted c u d (t ∷ ts) e = let P : Bool → Type 0 = λ z. has d (cells_of (cond z ((c, u) ∷ t ∷ ts) (t ∷ insert_by cell_key (c, u) ts))) ≡ true in ⊎_elim
    (λ y. subst P (sym y) (has_first d c (cells_of (t ∷ ts)) (sym e)))
    (λ y. subst P (sym y) (has_later d t.0 (cells_of (insert_by cell_key (c, u) ts)) (has_inserted c u d ts e))) (bool_cases (ltb c t.0))

-- a held cell stands among the held ones with the version that is kept
pub kept_among : (c : ℕ) (ts : List (ℕ × ℕ)) → has c (cells_of ts) ≡ true → Among (c, kept_in c ts) ts
kept_among c [] h = absurd (cc)
kept_among c (t ∷ ts) h = dite (ℕ_discrete t.0 c)
    (λ e. inl (let k : kept_in c (t ∷ ts) ≡ t.1 = ap (λ (b : Bool). cond b t.1 (kept_in c ts)) (eq-eqb t.0 c e) in λ i. (e i, sym k i)))
    (λ n. let k : kept_in c (t ∷ ts) ≡ kept_in c ts = ap (λ (b : Bool). cond b t.1 (kept_in c ts)) (ne_eqb t.0 c n) in
    inr (subst (λ (z : ℕ). Among (c, z) ts) (sym k) (kept_among c ts (sym (ap (λ (b : Bool). cond b true (has c (cells_of ts))) (ne_eqb t.0 c n)) ∙ h))))
