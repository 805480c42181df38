-- Where a map may hold only the keys below its capacity, a key's name is the key itself.
use Rattle.std.proofs.Common.{◌≡◌, ℕ, ◌<◌, List, [], ◌∷◌, refl, ap, ◌∙◌}
use Rattle.serial_terms.specs.declared.call.Call.{Call}
use Rattle.serial_terms.specs.declared.call.Call.TheVariants.{MapGet, MapPut, MapRemove, MapPutIfAbsent}
use Rattle.serial_terms.specs.declared.call.Done.{Done}
use Rattle.serial_terms.specs.Renaming.{with_key, OfKey, MayName, SameButKeys}

pub of_key_map : (P Q : ℕ → ℕ → Type 0) → ((m k : ℕ) → P m k → Q m k) → (c : Call) → OfKey P c → OfKey Q c
of_key_map P Q f (MapGet m k) o = f m k o
of_key_map P Q f (MapPut m k v) o = f m k o
of_key_map P Q f (MapRemove m k) o = f m k o
of_key_map P Q f (MapPutIfAbsent m k v) o = f m k o
of_key_map P Q f _ o = tt

pub own_key : (n : ℕ) (c : Call) → OfKey (λ m k. n ≡ k) c → with_key n c ≡ c
own_key n (MapGet m k) a = ap (λ (z : ℕ). MapGet m z) a
own_key n (MapPut m k v) a = ap (λ (z : ℕ). MapPut m z v) a
own_key n (MapRemove m k) a = ap (λ (z : ℕ). MapRemove m z) a
own_key n (MapPutIfAbsent m k v) a = ap (λ (z : ℕ). MapPutIfAbsent m z v) a
own_key n _ a = refl

-- calls that are the same but for keys are the same there
pub own_calls : (passes : ℕ → ℕ → Type 0) → ((c j : ℕ) → passes c j → j < c) → (ds es : List Done) → SameButKeys passes ds es → es ≡ ds
own_calls passes low [] [] a = refl
own_calls passes low [] (e ∷ es) a = absurd a
own_calls passes low (d ∷ ds) [] a = absurd a
own_calls passes low (d ∷ ds) (e ∷ es) a =
    let c = own_key a.0.0 d.call (of_key_map (λ m k. MayName passes a.0.0 k) (λ m k. a.0.0 ≡ k) (λ m k h. h low) d.call a.0.1) in
    let rest = own_calls passes low ds es a.1 in
    let same : e ≡ d = a.0.2 ∙ (λ i. record { call = c i; reply = d.reply; child = d.child }) in λ i. same i ∷ rest i
