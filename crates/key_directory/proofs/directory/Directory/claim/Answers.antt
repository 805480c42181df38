use Rattle.std.proofs.Common.{arith, ◌≡◌, ℕ, ◌+◌, ◌<◌, ◌≤◌, ◌^◌, List, length, sum, sym, ap, ◌∙◌, subst, Result, ok_or}
use Rattle.key_directory.specs.declared.layout.Region.{Region}
use Rattle.key_directory.specs.declared.view.View.{View}
use Rattle.key_directory.specs.declared.directory.KeysFull.{KeysFull}
use Rattle.key_directory.specs.Words.{capacities_of, capacity_of, start_from}
use Rattle.key_directory.specs.Directory.{DirectoryView, PassView}
use Rattle.key_directory.specs.Layouts.{pass_view}
use Rattle.key_directory.specs.Visits.{Walked}
use Rattle.key_directory.proofs.Places.{region_at, capacities_length}
use Rattle.key_directory.proofs.Claims.{Told, told}
use Rattle.key_directory.proofs.directory.Directory.claim.Given as given
use Rattle.key_directory.proofs.directory.Directory.claim.Goals as goal

-- the layout has the capacities that callers see
shape : (g : given.Over) (c : goal.After-self g) → capacities_of c.self.inside.layout.regions.items ≡ c.args.self.now.capacities
shape g c = ap (λ (z : DirectoryView). z.capacities) c.self.view_is

pub index-place-requires : goal.index-place-requires
index-place-requires g c = let e = ap (λ (z : List ℕ). length z) (shape g c) in let l = capacities_length c.self.inside.layout.regions.items in let r = c.requires.region in omega arith

pub find_place-requires-clause-region : goal.find_place-requires-clause-region
find_place-requires-clause-region g c = let cs : List ℕ = capacities_of c.self.inside.layout.regions.items in let r : ℕ = c.args.region in let d : Region = c.index-place.result.now in
    let there : r < length cs = subst (λ (z : List ℕ). r < length z) (sym (ap (λ (z : DirectoryView). z.capacities) c.self.view_is)) c.requires.region in
    let x = region_at c.self.inside.layout.regions.items r d c.self.invariant.regions there c.index-place.ensures in
    subst (λ (z : List ℕ). (r < length z) × (d.start ≡ start_from 1 z r) × (d.capacity ≡ capacity_of z r) × (c.self.inside.table.shared.table_id.words ≡ 1 + sum z) × (sum z ≤ 2 ^ 24)) (sym c.self.invariant.told.0)
    (there, x.0, x.1, c.self.invariant.words, c.self.invariant.small)

pub find_place-requires-clause-allowed : goal.find_place-requires-clause-allowed
find_place-requires-clause-allowed g c = let cs : List ℕ = capacities_of c.self.inside.layout.regions.items in
    let there : c.args.region < length cs = subst (λ (z : List ℕ). c.args.region < length z) (sym (ap (λ (z : DirectoryView). z.capacities) c.self.view_is)) c.requires.region in
    let x = region_at c.self.inside.layout.regions.items c.args.region c.index-place.result.now c.self.invariant.regions there c.index-place.ensures in
    let e : c.index-place.result.now.capacity ≡ capacity_of c.args.self.now.capacities c.args.region = x.1 ∙ ap (λ (z : DirectoryView). capacity_of z.capacities c.args.region) c.self.view_is in
    subst (λ (z : ℕ). g.K.KeyTest.passes z c.args.key) (sym e) c.requires.passes

all : (g : given.Over) (c : goal.After-ok_or g) → Told g.K.KeyTest.passes c.args.self.now.capacities c.args.region c.args.key c.args.pass.now (pass_view c.find_place.new.place.table_id c.find_place.new.place.me.0 c.pass.inside.room) c.ok_or.result
all g c = let passes : ℕ → ℕ → Type 0 = g.K.KeyTest.passes in let r : ℕ = c.args.region in let k : ℕ = c.args.key in let v : View = c.pass.inside.seat.me.0 in let w : View = c.find_place.new.place.me.0 in
    let cs : List ℕ = c.args.self.now.capacities in let m : ℕ = c.index-place.result.now.capacity in
    let inside : r < length (capacities_of c.self.inside.layout.regions.items) = subst (λ (z : List ℕ). r < length z) (sym (ap (λ (z : DirectoryView). z.capacities) c.self.view_is)) c.requires.region in
    let cap : m ≡ capacity_of cs r = (region_at c.self.inside.layout.regions.items r c.index-place.result.now c.self.invariant.regions inside c.index-place.ensures).1 ∙ ap (λ (z : DirectoryView). capacity_of z.capacities r) c.self.view_is in
    let seen : List ℕ = c.args.pass.now.directory.capacities in let mine : v.capacities ≡ seen = ap (λ (z : PassView). z.directory.capacities) c.pass.view_is in let theirs : seen ≡ cs = ap (λ (z : DirectoryView). z.capacities) c.requires.directory in
    let shape_is : v.capacities ≡ cs = ◌∙◌ {b = seen} mine theirs in
    let there : r < length v.capacities = subst (λ (z : List ℕ). r < length z) (sym shape_is) c.requires.region in
    let ok : passes (capacity_of v.capacities r) k = subst (λ (z : List ℕ). passes (capacity_of z r) k) (sym shape_is) c.requires.passes in
    let here : m ≡ capacity_of v.capacities r = cap ∙ sym (ap (λ (z : List ℕ). capacity_of z r) shape_is) in
    let walked : Walked r (capacity_of v.capacities r) k c.find_place.result v w = subst (λ (z : ℕ). Walked r z k c.find_place.result v w) here c.find_place.ensures.walked in
    let told_of : ℕ → Result ℕ KeysFull = λ z. ok_or c.find_place.result record { capacity = z } in let moved : told_of (capacity_of v.capacities r) ≡ told_of m = ap told_of (sym here) in let given : c.ok_or.result ≡ told_of m = c.ok_or.ensures.value in
    let answer : told_of (capacity_of v.capacities r) ≡ c.ok_or.result = ◌∙◌ {b = told_of m} moved (sym given) in
    subst (λ (z : List ℕ × PassView × Result ℕ KeysFull). Told passes z.0 r k z.1 (pass_view c.find_place.new.place.table_id w c.pass.inside.room) z.2) (λ i. (shape_is i, c.pass.view_is i, answer i))
    (told passes r k v w c.pass.inside.seat.table_id c.find_place.new.place.table_id c.pass.inside.room c.pass.inside.room there ok c.find_place.ensures.knows c.find_place.result walked)

pub returns-clause-position : goal.returns-clause-position
returns-clause-position g c = (all g c).position

pub returns-clause-claimed : goal.returns-clause-claimed
returns-clause-claimed g c = (all g c).claimed

pub returns-clause-same : goal.returns-clause-same
returns-clause-same g c = (all g c).same

pub returns-clause-other : goal.returns-clause-other
returns-clause-other g c = (all g c).other

pub returns-clause-first : goal.returns-clause-first
returns-clause-first g c = (all g c).first

pub returns-clause-own_number : goal.returns-clause-own_number
returns-clause-own_number g c = (all g c).own_number

pub returns-clause-full : goal.returns-clause-full
returns-clause-full g c = (all g c).full

pub returns-clause-capacity : goal.returns-clause-capacity
returns-clause-capacity g c = (all g c).capacity

pub returns-clause-err : goal.returns-clause-err
returns-clause-err g c = (all g c).err

pub returns-clause-steps : goal.returns-clause-steps
returns-clause-steps g c = (all g c).steps

pub returns-clause-quick : goal.returns-clause-quick
returns-clause-quick g c = (all g c).quick
