-- Runs of calls and of records, whatever a state is: `IsReplied s d` says that the call d may have its reply in the
-- state s, and `step s d` is the state after it.
use Rattle.std.specs.Prelude.{◌≡◌, ℕ, suc, IsFalse, List, [], ◌∷◌, Option, Some, None}
use Rattle.serial_terms.specs.Entries.{Entry, Each, up_to}

module _ {S D : Type 0} (IsReplied : S → D → Type 0) (step : S → D → S) where
  -- the calls run one after another from s to t
  abbrev pub RunsBy : S → List D → S → Type 0
  RunsBy s [] t = s ≡ t
  RunsBy s (d ∷ ds) t = IsReplied s d × RunsBy (step s d) ds t

  -- the records run one after another from s to t; each leaves a good state, and a record that is no writer the same state
  abbrev pub LegalBy : (S → Type 0) → S → List (Entry D) → S → Type 0
  LegalBy Good s [] t = s ≡ t
  LegalBy Good s (e ∷ es) t = (u : S) × RunsBy s e.dones u × Good u × (IsFalse e.writer → u ≡ s) × LegalBy Good u es t

  -- calls that run from the state after the records with a place of at most p, to a state that meets P
  abbrev pub SeenBy : (S → Type 0) → S → List (Entry D) → ℕ → List D → (S → Type 0) → Type 0
  SeenBy Good s es p ds P = (t : S) × LegalBy Good s (up_to p es) t × ((u : S) × RunsBy t ds u × P u)

  -- the writer at a place runs from the state before that place to the state there; without one they are the same
  abbrev pub WriterRuns : S → Option (Entry D) → S → Type 0
  WriterRuns s None t = t ≡ s
  WriterRuns s (Some e) t = RunsBy s e.dones t

  -- each record explains itself by the states at the places
  pub record ExplainThemselves (Good : S → Type 0) (state : ℕ → S) (writer : ℕ → Option (Entry D)) (readers : ℕ → List (Entry D)) : Type 0 where
    pub are_good : (p : ℕ) → Good (state p)
    pub writer_runs : (p : ℕ) → WriterRuns (state p) (writer (suc p)) (state (suc p))
    pub readers_run : (p : ℕ) → Each (λ e. RunsBy (state p) e.dones (state p)) (readers p)
