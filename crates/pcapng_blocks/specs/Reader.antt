-- What a reading of blocks comes to with one block more.
use Rattle.std.specs.Prelude.{◌≡◌, ℕ, None, Some}
use Rattle.capture_terms.specs.Capture.{Answer}
use Rattle.pcapng_blocks.specs.Answer.{Before, behind, refusal_at}
use Rattle.pcapng_blocks.specs.declared.capture.Reading.{Reading}
use Rattle.pcapng_blocks.specs.declared.terms.Body.{Body}

-- what the blocks say that were read
abbrev pub before_of : Reading → Before
before_of reading = record {
  order = reading.order;
  interfaces = reading.interfaces.items;
  link = reading.link;
  frames = reading.frames.items;
}

-- the block at a place isn't refused, and the reading goes on behind it
pub record Takes (old : Reading) (at : ℕ) (body : Body) (new : Reading) : Type 0 where
  pub fits : refusal_at (before_of old) at body ≡ None
  pub behind : before_of new ≡ behind (before_of old) body

-- the block at a place is refused for this
abbrev pub Refuses : Reading → ℕ → Body → Answer → Type 0
Refuses old at body answer = refusal_at (before_of old) at body ≡ Some answer
