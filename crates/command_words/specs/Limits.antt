-- The limits of the numbers that are asked for.
use Rattle.std.specs.Prelude.{ℕ, ◌≤◌, IfSome}
use Rattle.command_words.specs.Words.{Asked, inspect, journal, trial}
use Rattle.command_words.specs.declared.command.Settings.{Settings}
use Rattle.command_words.specs.declared.options.Options.{Options}

-- at least one, and no more than these
abbrev pub IsUpTo : ℕ → ℕ → Type 0
IsUpTo most number = (1 ≤ number) × (number ≤ most)

abbrev pub AreWorkers : ℕ → Type 0
AreWorkers workers = IsUpTo 16 workers

-- those of settings
pub record IsWithinLimits (settings : Settings) : Type 0 where
  pub findings : IsUpTo 1048576 settings.findings
  pub window : IsUpTo 86400 settings.window
  pub workers : AreWorkers settings.workers

-- those of the options that are given
pub record IsOptionsWithin (options : Options) : Type 0 where
  pub findings : IfSome options.findings (IsUpTo 1048576)
  pub window : IfSome options.window (IsUpTo 86400)
  pub workers : IfSome options.workers AreWorkers

-- those of what is asked
abbrev pub IsWithin : Asked → Type 0
IsWithin (inspect names settings) = IsWithinLimits settings
IsWithin (journal names settings) = IsWithinLimits settings
IsWithin (trial workers seed frames) = AreWorkers workers
IsWithin asked = Unit {0}
