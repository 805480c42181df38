-- What a rule says. The rule language is this project's own.
use Rattle.std.specs.Prelude.{ℕ, Bool, List, Option}

-- what a rule looks for in a payload: the bytes; whether upper case and lower case of a letter count as one; the place
-- where it begins at the least, and the place where it ends at the most, where these are given
pub record Pattern : Type 0 where
  pub bytes : List ℕ
  pub nocase : Bool
  pub from : Option ℕ
  pub to : Option ℕ

-- a rule: its name; the protocol number and the ports that it asks for, where it asks for them; its first pattern, whose
-- place is reported, and its other ones
pub record Rule : Type 0 where
  pub name : List ℕ
  pub protocol : Option ℕ
  pub source_port : Option ℕ
  pub destination_port : Option ℕ
  pub first : Pattern
  pub others : List Pattern
