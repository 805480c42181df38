-- Each file has a right answer: that of going from record to record.
use Rattle.std.proofs.Common.{◌≡◌, ℕ, zero, suc, ◌+◌, ◌-◌, ◌≤◌, ◌⊎◌, inl, inr, List, [], ◌∷◌, length, Option, None, Some, refl, arith}
use Rattle.std.specs.Prelude.{IsSome}
use Rattle.std.proofs.lemmas.Bool.{cases_lt, cases_eq}
use Rattle.capture_terms.specs.Numbers.{number16}
use Rattle.capture_terms.specs.Capture.{magic_of, HasMagic, has_nanos, HasVersion, IsHeader, IsAcceptedLink, link_numbered, link_of, captured_length, frame_at, IsRecord, AreRecords, IsLongRecord, IsTail, HasFrames, Answer, captured, refused, too_many_frames, IsAnswer}
use Rattle.capture_terms.specs.declared.capture.CaptureFault.TheVariants as fault
use Rattle.capture_terms.specs.declared.capture.Endianness.{Endianness}
use Rattle.capture_terms.specs.declared.capture.Endianness.TheVariants.{Little, Big}
use Rattle.capture_terms.specs.declared.capture.Frame.{Frame}
use Rattle.capture_terms.specs.declared.capture.Link.{Link}

-- what stands at a place where a record may begin
data Next (order : Endianness) (bytes : List ℕ) (at : ℕ) : Type 0 where
  next_record : (frame : Frame) → IsRecord order bytes at frame → Next order bytes at
  next_long : IsLongRecord order bytes at → Next order bytes at
  next_tail : (torn : ℕ) → IsTail order bytes at torn → Next order bytes at

next_at : (order : Endianness) (bytes : List ℕ) (at : ℕ) → at ≤ length bytes → Next order bytes at
next_at order bytes at within = elim (cases_lt (length bytes) (at + 16)) [
  | inl short ↦ next_tail (length bytes - at) record { left = omega arith; cut = inl (omega arith) }
  | inr header ↦ elim (cases_lt 262144 (captured_length order bytes at)) [
    | inl long ↦ next_long record { header = header; long = long }
    | inr fits ↦ elim (cases_lt (length bytes) (at + 16 + captured_length order bytes at)) [
      | inl cut ↦ next_tail (length bytes - at) record { left = omega arith; cut = inr record { header = omega arith; short = fits; cut = omega arith } }
      | inr whole ↦ next_record (frame_at order bytes at) record { header = header; fields = refl; short = fits; whole = whole }
    ]
  ]
]

-- why records stop at a place, if so many more frames are allowed
data Stop (order : Endianness) (bytes : List ℕ) (at left : ℕ) : Type 0 where
  stop_long : IsLongRecord order bytes at → Stop order bytes at left
  stop_tail : (torn : ℕ) → IsTail order bytes at torn → Stop order bytes at left
  stop_many : left ≡ 0 → (next : Frame) → IsRecord order bytes at next → Stop order bytes at left

-- records from a place on, as far as they go, but so many at most
record Walk (order : Endianness) (bytes : List ℕ) (at count : ℕ) : Type 0 where
  frames : List Frame
  end : ℕ
  records : AreRecords order bytes at frames end
  few : length frames ≤ count
  stop : Stop order bytes end (count - length frames)

walk : (count : ℕ) (order : Endianness) (bytes : List ℕ) (at : ℕ) → at ≤ length bytes → Walk order bytes at count
walk zero order bytes at within = elim (next_at order bytes at within) [
  | next_record frame here ↦ record { frames = []; end = at; records = refl; few = omega arith; stop = stop_many (omega arith) frame here }
  | next_long long ↦ record { frames = []; end = at; records = refl; few = omega arith; stop = stop_long long }
  | next_tail torn tail ↦ record { frames = []; end = at; records = refl; few = omega arith; stop = stop_tail torn tail }
]
walk (suc count) order bytes at within = elim (next_at order bytes at within) [
  | next_record frame here ↦
      let rest = walk count order bytes (at + 16 + frame.length) here.whole in
      let left : suc count - length (frame ∷ rest.frames) ≡ count - length rest.frames = omega arith in
      record { frames = frame ∷ rest.frames; end = rest.end; records = (here, rest.records); few = omega (arith, rest.few); stop = rw left rest.stop }
  | next_long long ↦ record { frames = []; end = at; records = refl; few = omega arith; stop = stop_long long }
  | next_tail torn tail ↦ record { frames = []; end = at; records = refl; few = omega arith; stop = stop_tail torn tail }
]

answer_from : (bytes : List ℕ) (order : Endianness) → IsHeader order bytes → IsAcceptedLink (link_of order bytes) → (count : ℕ) → count ≡ 262144 → Walk order bytes 24 count → (answer : Answer) × IsAnswer bytes answer
answer_from bytes order header accepted count is walked = by_stop walked.stop
  where
    before : HasFrames order bytes walked.frames walked.end
    before = record { header = header; accepted = accepted; records = walked.records; few = omega (arith, walked.few) }

    by_stop : Stop order bytes walked.end (count - length walked.frames) → (answer : Answer) × IsAnswer bytes answer
    by_stop (stop_long long) = (refused (fault.Record walked.end), record { order = order; frames = walked.frames; before = before; long = long })
    by_stop (stop_tail torn tail) = (captured record { nanos = has_nanos order bytes; link = link_of order bytes; frames = walked.frames; torn = torn }, record { order = order; end = walked.end; before = before; tail = tail; link = refl; unit = refl })
    by_stop (stop_many none next more) = (too_many_frames, record { order = order; frames = walked.frames; end = walked.end; next = next; before = before; many = omega (arith, walked.few); more = more })

cases_link : (link : ℕ) → IsAcceptedLink link ⊎ ¬ IsAcceptedLink link
cases_link link = by_case (link_numbered link)
  where
    by_case : (found : Option Link) → IsSome found ⊎ ¬ IsSome found
    by_case None = inr (λ some. absurd (cc))
    by_case (Some link) = inl refl

cases_version : (order : Endianness) (bytes : List ℕ) → HasVersion order bytes ⊎ ¬ HasVersion order bytes
cases_version order bytes = elim (cases_eq (number16 order bytes 4) 2) [
  | inl major ↦ elim (cases_eq (number16 order bytes 6) 4) [
    | inl minor ↦ inl (major, minor)
    | inr other ↦ inr (λ both. other both.1)
  ]
  | inr other ↦ inr (λ both. other both.0)
]

answer_in : (bytes : List ℕ) (order : Endianness) → 24 ≤ length bytes → HasMagic order bytes → (answer : Answer) × IsAnswer bytes answer
answer_in bytes order long magic = elim (cases_version order bytes) [
  | inl version ↦
      let header : IsHeader order bytes = record { long = long; magic = magic; version = version } in
      elim (cases_link (link_of order bytes)) [
        | inl accepted ↦ answer_from bytes order header accepted 262144 refl (walk 262144 order bytes 24 long)
        | inr other ↦ (refused (fault.Link (link_of order bytes)), record { order = order; header = header; network = refl; other = other })
      ]
  | inr other ↦ (refused fault.Version, record { order = order; long = long; magic = magic; other = other })
]

cases_magic : (order : Endianness) (bytes : List ℕ) → HasMagic order bytes ⊎ ¬ HasMagic order bytes
cases_magic order bytes = elim (cases_eq (magic_of order bytes) 0xa1b2c3d4) [
  | inl micros ↦ inl (inl micros)
  | inr not_micros ↦ elim (cases_eq (magic_of order bytes) 0xa1b23c4d) [
    | inl nanos ↦ inl (inr nanos)
    | inr not_nanos ↦ inr (λ either. elim either [ inl micros ↦ not_micros micros | inr nanos ↦ not_nanos nanos ])
  ]
]

-- some answer is right
pub right_answer : (bytes : List ℕ) → (answer : Answer) × IsAnswer bytes answer
right_answer bytes = elim (cases_lt (length bytes) 24) [
  | inl short ↦ (refused (fault.Header (length bytes)), inl record { short = short; place = refl })
  | inr long ↦ elim (cases_magic Little bytes) [
    | inl magic ↦ answer_in bytes Little long magic
    | inr little ↦ elim (cases_magic Big bytes) [
      | inl magic ↦ answer_in bytes Big long magic
      | inr big ↦ (refused (fault.Header 0), inr record { long = long; little = little; big = big; place = refl })
    ]
  ]
]
