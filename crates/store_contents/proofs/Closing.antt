-- From the history of a closed table to that of the store, with keys in the place of positions.
use Rattle.std.proofs.Common.{◌≡◌, ◌≢◌, ℕ, zero, suc, ◌+◌, ◌<◌, Bool, cond, eqb, List, [], ◌∷◌, length, sym, ap, ◌∙◌, refl, subst, arith, ne_eqb}
use Rattle.std.specs.Prelude.{Option, Some, None}
use mathlib.Core.Logic.{dite}
use native.Mathlib.Decide.{ℕ_discrete}
use Rattle.cell_table.specs.History.{cells_at}
use Rattle.cell_table.specs.Pass.{PassState}
use Rattle.cell_table.specs.Settled.{Settled, Words}
use Rattle.cell_table.specs.Sorted.{Each as EachOf}
use Rattle.cell_table.specs.declared.view.Noted.{Noted}
use Rattle.cell_table.specs.declared.view.NotedBook.{NotedBook}
use Rattle.key_directory.specs.Directory.{KeyListView, key_held, key_in, Claimed}
use Rattle.key_directory.specs.Words.{capacity_of, IsPosition}
use Rattle.key_directory.specs.declared.view.Claim.{Claim}
use Rattle.serial_terms.specs.declared.call.Done.{Done}
use Rattle.serial_terms.specs.declared.store.Layout.{Layout}
use Rattle.serial_terms.specs.declared.store.StoreState.{StoreState}
use Rattle.serial_terms.specs.Entries.{Entry, Each, IsHistoryOf}
use Rattle.serial_terms.specs.Histories.{Runs, IsLegalRun, IsLegalHistory}
use Rattle.serial_terms.specs.Laws.{RecordsKeepSizes, RenamingKeepsHistories}
use Rattle.serial_terms.specs.Renaming.{NamedDone, IsOneToOne, AreNamesOfKeys, AreNamesIn, by_key, by_keys, seen_with}
use Rattle.serial_terms.specs.Serial.{State}
use Rattle.serial_terms.specs.Sights.{IsConsistent}
use Rattle.serial_terms.specs.Stores.{opening_of, state_of}
use Rattle.store_contents.proofs.Pairs.{word, position_there, eqb_same}
use Rattle.store_meaning.specs.Claims.{AreClaimed, BooksAreClaimed}
use Rattle.store_contents.specs.Closed.{AreLaidOutBy, books_by_key, IsClosed}
use Rattle.store_contents.specs.Contents.{position_below, name_in, KeysAreApart, AreContents}
use Rattle.store_meaning.specs.ClaimFacts.{of_key}
use Rattle.store_history.specs.Books.{records_from, books_of}
use Rattle.store_history.specs.Keyed.{KeyedHistory}
use Rattle.store_history.specs.Meanings.{IsLawful}
use Rattle.store_layout.specs.Laws.{OpeningStands}
use Rattle.store_layout.specs.Shapes.{Shape}
use Rattle.store_layout.specs.States.{IsFormed, state_in}
use Rattle.store_meaning.specs.declared.meaning.StoreMeaning.{StoreMeaning}

-- ---- the names of keys

module _ (keys : KeyListView) where
  pub one_to_one : IsOneToOne (name_in keys)
  one_to_one m j k n a b =
      let p = position_there keys m j (capacity_of keys.capacities m) n a in let q = position_there keys m k (capacity_of keys.capacities m) n b in
      let e : suc j ≡ suc k = sym p.1 ∙ q.1 in omega arith

  nowhere : (m key n p : ℕ) → position_below keys m key n ≡ None → p < n → word keys m p ≢ suc key
  nowhere m key zero p e less is = absurd (omega arith)
  nowhere m key (suc n) p e less is = dite (ℕ_discrete (word keys m n) (suc key))
      (λ same. let here : position_below keys m key (suc n) ≡ Some n = ap (λ (b : Bool). cond b (Some n) (position_below keys m key n)) (ap (λ (w : ℕ). eqb w (suc key)) same ∙ eqb_same (suc key)) in
      let z : Some n ≡ None = sym here ∙ e in absurd (cc))
      (λ other. let here : position_below keys m key (suc n) ≡ position_below keys m key n = ap (λ (b : Bool). cond b (Some n) (position_below keys m key n)) (ne_eqb (word keys m n) (suc key) other) in
      dite (ℕ_discrete p n) (λ at. other (subst (λ (z : ℕ). word keys m z ≡ suc key) at is)) (λ before. nowhere m key n p (sym here ∙ e) (omega arith) is))

  key_word : (key w : ℕ) → key_in w ≡ Some key → w ≡ suc key
  key_word key zero e = absurd (cc)
  key_word key (suc k) e = let same : k ≡ key = cc in ap (λ (z : ℕ). suc z) same

  -- the key that holds a position has it for a name
  pub name_of : KeysAreApart keys → (m key p : ℕ) → IsPosition keys.capacities m p → key_held keys m p ≡ Some key → name_in keys m key ≡ Some p
  name_of apart m key p there held = from (name_in keys m key) refl
    where
      from : (o : Option ℕ) → name_in keys m key ≡ o → o ≡ Some p
      from None e = absurd (nowhere m key (capacity_of keys.capacities m) p e there.1 (key_word key (word keys m p) held))
      from (Some q) e =
          let at = position_there keys m key (capacity_of keys.capacities m) q e in
          ap (λ (z : ℕ). Some z) (apart m key q p (there.0, at.0) there (ap key_in at.1) held)

-- claims become names
module _ (claims : List Claim) (name : ℕ → ℕ → Option ℕ) (is : (m k p : ℕ) → Claimed claims m k p → name m k ≡ Some p) where
  pub names_of_claimed : (ds : List NamedDone) → AreClaimed claims ds → AreNamesOfKeys name ds
  names_of_claimed [] a = tt
  names_of_claimed (d ∷ ds) a = (of_key (λ m k. Claimed claims m k d.name) (λ m k. name m k ≡ Some d.name) (λ m k c. is m k d.name c) d.done.call a.0, names_of_claimed ds a.1)

  names_in_records : (caller n : ℕ) (es : List (Noted NamedDone)) → EachOf (λ e. AreClaimed claims e.content.dones) es → AreNamesIn name (records_from (λ (notes : List NamedDone). notes) caller n es)
  names_in_records caller n [] a = tt
  names_in_records caller n (e ∷ es) a = (names_of_claimed e.content.dones a.0, names_in_records caller (n + 1) es a.1)

  pub names_in_books : (bs : List (NotedBook NamedDone)) → BooksAreClaimed claims bs → Each (λ b. AreNamesIn name b.records) (books_of (λ (notes : List NamedDone). notes) bs)
  names_in_books [] a = tt
  names_in_books (b ∷ bs) a = (names_in_records b.caller 0 b.entries a.0, names_in_books bs a.1)

-- ---- lawful states

-- allowed records lead from a lawful state to a lawful one
legal_stays_lawful : (lawful : State → Type 0) (allowed : List Done → Type 0) → ((ds : List Done) (s t : State) → lawful s → allowed ds → Runs s ds t → lawful t)
    → (es : List (Entry Done)) (s t : State) → lawful s → Each (λ e. allowed e.dones) es → IsLegalRun s es t → lawful t
legal_stays_lawful lawful allowed ends [] s t l a run = subst lawful run l
legal_stays_lawful lawful allowed ends (e ∷ es) s t l a (u, run, good, same, rest) = legal_stays_lawful lawful allowed ends es u t (ends e.dones s u l a.0 run) a.1 rest

-- ---- the end

module _ {P K : Type 0} (lawful_state : P → State → Type 0) (allowed : P → List Done → Type 0) (m : StoreMeaning P K) (p : PassState (StoreMeaning P K) NamedDone) (claims : List Claim)
    (keys : KeyListView) (values : List ℕ) (contents : StoreState) (history : List (Entry Done)) where
  abbrev lawful : StoreMeaning P K → List ℕ → Type 0
  lawful m = IsLawful (IsFormed m.plan) (state_in m.plan) (lawful_state m.purpose)

  pub closed : ((ds : List Done) (s t : State) → lawful_state m.purpose s → allowed m.purpose ds → Runs s ds t → lawful_state m.purpose t)
      → KeyedHistory (λ (m : StoreMeaning P K). lawful m) (λ (notes : List NamedDone). notes) (λ (m : StoreMeaning P K). state_in m.plan) (λ (m : StoreMeaning P K). allowed m.purpose) m p values
      → lawful_state m.purpose (state_in m.plan p.view.opening) → BooksAreClaimed claims p.books
      → ((r k q : ℕ) → Claimed claims r k q → IsPosition keys.capacities r q) → ((r k q : ℕ) → Claimed claims r k q → key_held keys r q ≡ Some k)
      → KeysAreApart keys → AreContents m.plan values keys contents → IsHistoryOf (books_by_key p) history
      → OpeningStands → RecordsKeepSizes → ((name : ℕ → ℕ → Option ℕ) → IsOneToOne name → RenamingKeepsHistories name)
      → IsClosed lawful_state allowed m p claims history contents
  closed ends keyed opened claimed there held apart are of opens sizes renames =
      let name = name_in keys in let one = one_to_one keys in
      let names : (r k q : ℕ) → Claimed claims r k q → name r k ≡ Some q = λ r k q c. name_of keys apart r k q (there r k q c) (held r k q c) in
      let is = keyed name one (names_in_books claims name names p.books claimed) history of in
      let start : (layout : Layout) → AreLaidOutBy m.plan p.view.opening layout → state_in m.plan p.view.opening ≡ opening_of layout =
      λ layout laid. (λ i. state_in (laid.shape i) (laid.words i)) ∙ opens.state layout laid.is in
      let from : (layout : Layout) → AreLaidOutBy m.plan p.view.opening layout → by_keys name (state_in m.plan p.view.opening) ≡ opening_of layout =
      λ layout laid. ap (by_keys name) (start layout laid) ∙ (renames name one).opening layout in
      record {
        records = of;
        may_be = is.allowed;
        kinds = (sizes history (by_keys name (state_in m.plan p.view.opening)) (by_keys name (state_in m.plan values)) is.legal.run).kinds;
        serial = λ layout laid.
            let whole : IsLegalHistory (opening_of layout) history (state_of layout contents) =
            subst (λ (t : State). IsLegalHistory (opening_of layout) history t) (sym (are.state layout laid.shape))
            (subst (λ (s : State). IsLegalHistory s history (by_keys name (state_in m.plan values))) (from layout laid) is.legal) in
            record {
              legal = whole;
              lawful = legal_stays_lawful (lawful_state m.purpose) (allowed m.purpose) ends history (opening_of layout) (state_of layout contents)
                  (subst (lawful_state m.purpose) (start layout laid) opened) is.allowed whole.run;
              sights = λ seen v. subst (λ (s : State). IsConsistent (length layout.queues) s history (seen_with by_key seen)) (from layout laid)
                  (subst (λ (s : Shape). IsConsistent (length s.queues) (by_keys name (state_in m.plan p.view.opening)) history (seen_with by_key seen)) laid.shape
                  (is.sights (length m.plan.queues) seen v.view (names_of_claimed claims name names seen.dones v.claimed)));
            };
        maps = are.maps;
        counted = are.counted;
      }

-- ---- what is settled

abbrev given : {A : Type 0} → A → Option A → A
given a None = a
given a (Some b) = b

pub lawful_ends : {M D : Type 0} (lawful : M → List ℕ → Type 0) (explains : M → List (ℕ × ℕ) → List (ℕ × ℕ) → List D → Type 0) (m : M) (p : PassState M D) (w : Words)
    → Settled lawful explains p w → p.view.meaning ≡ Some m → lawful m p.view.opening × lawful m w.values
lawful_ends {M = M} lawful explains m p w s of =
    let same : s.meaning ≡ m = ap (given m) (sym s.is ∙ of) in (
      subst (λ (z : M). lawful z p.view.opening) same (s.moments.lawful_there 0),
      subst (lawful m) (sym s.values) (subst (λ (z : M). lawful z (cells_at p.view.opening s.history s.clock)) same (s.moments.lawful_there s.clock)),
    )
