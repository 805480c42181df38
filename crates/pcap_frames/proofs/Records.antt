-- A record behind others makes one more of them.
use Rattle.std.proofs.Common.{ℕ, ◌+◌, List, [], ◌∷◌, ◌++◌, sym, ap, subst}
use Rattle.capture_terms.specs.Capture.{IsRecord, AreRecords}
use Rattle.capture_terms.specs.declared.capture.Endianness.{Endianness}
use Rattle.capture_terms.specs.declared.capture.Frame.{Frame}

pub AreRecords-append : (order : Endianness) (bytes : List ℕ) (at : ℕ) (frames : List Frame) (mid : ℕ) (frame : Frame) → AreRecords order bytes at frames mid → IsRecord order bytes mid frame → AreRecords order bytes at (frames ++ frame ∷ []) (mid + 16 + frame.length)
AreRecords-append order bytes at [] mid frame before here =
    let here' : IsRecord order bytes at frame = subst (λ (k : ℕ). IsRecord order bytes k frame) (sym before) here in
    (here', ap (λ (k : ℕ). k + 16 + frame.length) before)
AreRecords-append order bytes at (f ∷ frames) mid frame before here =
    (before.0, AreRecords-append order bytes (at + 16 + f.length) frames mid frame before.1 here)
