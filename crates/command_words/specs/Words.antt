-- The words of the command line, and the commands that they are. Both are this project's own.
use Rattle.std.specs.Prelude.{ℕ, ◌-◌, ◌^◌, Bool, ◌&&◌, not, ◌==◌, nat_le, List, [], ◌∷◌, length, take, Option, Some, None, is_none, if◌then◌else◌, codes}
use Rattle.std.specs.Fmt.{decimal}
use Rattle.std.specs.Option.{option_map, option_map_or, unwrap_or}
use Rattle.std.specs.Str.{bytes_eq}
use Rattle.std.specs.Str.Parse.{digits_value}
use Rattle.command_words.specs.declared.command.Command.{Command}
use Rattle.command_words.specs.declared.command.Command.TheVariants.{Unknown, Inspect, Journal, Audit, Make, Trial}
use Rattle.command_words.specs.declared.command.FileNames.{FileNames}
use Rattle.command_words.specs.declared.command.Settings.{Settings}
use Rattle.command_words.specs.declared.options.Options.{Options}

-- the names of a rule file and a capture file
pub record Names : Type 0 where
  pub rules : List ℕ
  pub capture : List ℕ

abbrev pub names_of : FileNames → Names
names_of names = record { rules = names.rules.now; capture = names.capture.now }

-- what is asked of the program: nothing that it knows, to inspect the files of these names with these
-- settings, to write the journal of such an inspection, to judge the journal of this name, to generate a
-- capture from a seed with so many frames, or to try so many workers on one
pub data Asked : Type 0 where
  unknown : Asked
  inspect : Names → Settings → Asked
  journal : Names → Settings → Asked
  audit : List ℕ → Asked
  make : ℕ → ℕ → Asked
  trial : ℕ → ℕ → ℕ → Asked

abbrev pub asked_of : Command → Asked
asked_of Unknown = unknown
asked_of (Inspect names settings) = inspect (names_of names) settings
asked_of (Journal names settings) = journal (names_of names) settings
asked_of (Audit name) = audit name.now
asked_of (Make making) = make making.seed making.frames
asked_of (Trial making workers) = trial workers making.seed making.frames

-- The words of an inspection.

-- a name isn't empty and doesn't begin with two dashes
unfoldable pub is_name : List ℕ → Bool
is_name word = not (length word == 0) && not (bytes_eq (take 2 word) (codes "--"))

-- the number that a word writes in decimal digits, without a sign or a zero in front, if it is from
-- the least up to the most
unfoldable pub number_in : ℕ → ℕ → List ℕ → Option ℕ
number_in least most word =
    let number = digits_value 10 word in
    if bytes_eq word (decimal number) && (nat_le least number && nat_le number most) then Some number else None

-- the options with one more, of this word and value: one that is known and wasn't given yet
unfoldable pub with_option : Options → List ℕ → List ℕ → Option Options
with_option options word value =
    if bytes_eq word (codes "--window") && is_none options.window
    then option_map (λ window. record options { window = Some window }) (number_in 1 86400 value)
    else if bytes_eq word (codes "--findings") && is_none options.findings
    then option_map (λ findings. record options { findings = Some findings }) (number_in 1 1048576 value)
    else if bytes_eq word (codes "--workers") && is_none options.workers
    then option_map (λ workers. record options { workers = Some workers }) (number_in 1 16 value)
    else None

abbrev pub usual_workers : ℕ
usual_workers = 4

-- the settings that these options give: 65,536 findings, 30 seconds and four workers where they don't say it
abbrev pub settings_by : Options → Settings
settings_by options =
    record { findings = unwrap_or options.findings 65536; window = unwrap_or options.window 30; workers = unwrap_or options.workers usual_workers }

-- an inspection of the files of these names, if names they are
unfoldable pub inspection_of : Options → List ℕ → List ℕ → Asked
inspection_of options rules capture =
    if is_name rules && is_name capture
    then inspect (record { rules = rules; capture = capture }) (settings_by options)
    else unknown

-- options, each with its value behind it, and then two names
unfoldable pub inspection_by : Options → List (List ℕ) → Asked
inspection_by options [] = unknown
inspection_by options (word ∷ []) = unknown
inspection_by options (rules ∷ capture ∷ []) = inspection_of options rules capture
inspection_by options (word ∷ value ∷ other ∷ words) =
    option_map_or (λ more. inspection_by more (other ∷ words)) (with_option options word value) unknown

abbrev pub no_options : Options
no_options = record { window = None; findings = None; workers = None }

-- the journal of an inspection, where one is asked for
abbrev pub journal_by : Asked → Asked
journal_by (inspect names settings) = journal names settings
journal_by asked = unknown

-- the audit of a journal: one name
unfoldable pub audit_by : List (List ℕ) → Asked
audit_by (name ∷ []) = if is_name name then audit name else unknown
audit_by words = unknown

-- the seed and the number of frames that two words write, if numbers they are
unfoldable pub making_of : List ℕ → List ℕ → Option (ℕ × ℕ)
making_of seed frames =
    option_map_or (λ s. option_map (λ f. (s, f)) (number_in 0 262144 frames)) (number_in 0 (2 ^ 64 - 1) seed) None

-- what is asked for with a capture of a seed and a number of frames
unfoldable pub making_by : (ℕ → ℕ → Asked) → List (List ℕ) → Asked
making_by ask (seed ∷ frames ∷ []) = option_map_or (λ making. ask making.0 making.1) (making_of seed frames) unknown
making_by ask words = unknown

-- a trial by so many workers where they are given, behind the one option
unfoldable pub trial_by : List (List ℕ) → Asked
trial_by (seed ∷ frames ∷ []) = making_by (trial usual_workers) (seed ∷ frames ∷ [])
trial_by (option ∷ value ∷ seed ∷ frames ∷ []) =
    if bytes_eq option (codes "--workers")
    then option_map_or (λ workers. making_by (trial workers) (seed ∷ frames ∷ [])) (number_in 1 16 value) unknown
    else unknown
trial_by words = unknown

-- what the words behind the program's own name ask for, where they are one of these:
--     inspect [--workers N] [--findings N] [--window N] RULES CAPTURE
--     journal [--workers N] [--findings N] [--window N] RULES CAPTURE
--     audit JOURNAL
--     make SEED FRAMES
--     trial [--workers N] SEED FRAMES
-- The options come in any order.
unfoldable pub asked_by : List (List ℕ) → Asked
asked_by [] = unknown
asked_by (command ∷ words) =
    if bytes_eq command (codes "inspect") then inspection_by no_options words
    else if bytes_eq command (codes "journal") then journal_by (inspection_by no_options words)
    else if bytes_eq command (codes "audit") then audit_by words
    else if bytes_eq command (codes "make") then making_by make words
    else if bytes_eq command (codes "trial") then trial_by words
    else unknown
