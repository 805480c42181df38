-- The cells of a list in chains, one for each bucket: from the last entry of the bucket back to its first.
use Rattle.std.specs.Prelude.{◌≡◌, ℕ, suc, ◌*◌, ◌/◌, ◌%◌, ◌^◌, ◌<◌, ◌≤◌, List, length, slice_index_or}
use Rattle.attempt_lists.specs.Cells.{Entries, cell_at}

-- the bucket of a cell: its multiple of 2^32 over the golden ratio, by which cells at equal distances are spread, scaled to the buckets
abbrev pub bucket_of : ℕ → ℕ → ℕ
bucket_of buckets cell = cell * 2654435769 % 2 ^ 32 * buckets % 2 ^ 64 / 2 ^ 32

-- the link to the last of the first n entries that is of the bucket: its place plus one, or 0 where there is none
pub record IsLink (entries : Entries) (buckets bucket n link : ℕ) : Type 0 where
  pub within : link ≤ n
  pub of_bucket : (place : ℕ) → link ≡ suc place → bucket_of buckets (cell_at entries place) ≡ bucket
  pub last : (i : ℕ) → i < n → bucket_of buckets (cell_at entries i) ≡ bucket → i < link

-- the first n entries are in chains: each bucket links to its last entry, and each entry to the one of its bucket before it
pub record AreChains (heads links : List ℕ) (entries : Entries) (n : ℕ) : Type 0 where
  pub some : 0 < length heads
  pub len : length links ≡ n
  pub from_heads : (bucket : ℕ) → bucket < length heads → IsLink entries (length heads) bucket n (slice_index_or heads bucket 0)
  pub from_links : (i : ℕ) → i < n → IsLink entries (length heads) (bucket_of (length heads) (cell_at entries i)) i (slice_index_or links i 0)
