-- Which files belong to other hosts: those that another kernel knows.
use Rattle.vm_hosts.proofs.Common.{AllRest, Bool, Event, Header, HostTable, List, None, ObjectRow, Option, Parts, Some, ap, arith, false, home_of}
use Rattle.vm_hosts.proofs.Common.{if◌then◌else◌, in_use, inl, inr, is_elsewhere, is_file, is_file_kind, is_on, is_some, kind_in, kind_of}
use Rattle.vm_hosts.proofs.Common.{knows_file, length, named, nat_lt, not, object_at, refl, same_Some, slice_get, subst, sym, true, ℕ, ℕ_discrete, ◌&&◌, ◌+◌}
use Rattle.vm_hosts.proofs.Common.{◌<◌, ◌∙◌, ◌≡◌, ◌≢◌}
use Rattle.vm_abroad.specs.Home.{HaveHomes}
use Rattle.vm_legal.proofs.Files.{file_kind}
use Rattle.vm_model.specs.Named.{declared}
use Rattle.vm_state.specs.Stands.{IsOfKind}
use Rattle.vm_base.specs.declared.ids.ObjectKind.TheVariants.{Temp}
use Rattle.std.proofs.lemmas.Bool.Decides.{nat_tests}
use Rattle.vm_hosts.proofs.Homes.{home_is}
use Rattle.vm_hosts.proofs.Tables.{common_all, kernel_of, same_number}

-- an object that is known is of its number's kind, declared or not
known_kind : (header : Header) (o : ℕ) (known : ObjectRow) → IsOfKind header o known → known.kind ≡ kind_of header o
known_kind header o known kind = by_number (nat_lt o (named header)) refl
  where
    by_number : (b : Bool) → nat_lt o (named header) ≡ b → known.kind ≡ kind_of header o
    by_number true less = (kind.declared (grind (arith, nat_tests))).kind
    by_number false more = (kind.temporary (grind (arith, nat_tests))).kind ∙ sym (ap (λ b. if b then kind_in (declared header o) else Temp) more)

-- a file that a host knows is known as one
knows_same : (header : Header) (o : ℕ) (x : Option ObjectRow) → ((known : ObjectRow) → x ≡ Some known → IsOfKind header o known)
    → knows_file x ≡ (is_some x && is_file header o)
knows_same header o None kinds = refl
knows_same header o (Some known) kinds = ap is_file_kind (known_kind header o known (kinds known refl)) ∙ file_kind header o

both_true : (a b : Bool) → (a && b) ≡ true → (a ≡ true) × (b ≡ true)
both_true true b is = (refl, is)
both_true false b is = absurd (let bad : false ≡ true = is in cc)

-- none of the hosts below a number, but for one, knows the file
abbrev pub NoneKnows : HostTable → ℕ → ℕ → ℕ → Type 0
NoneKnows hosts o h n = (g : ℕ) (k : Parts) → g < n → g ≢ h → slice_get hosts.kernels g ≡ Some k → knows_file (object_at k.memory.objects o) ≡ false

module _ (header : Header) (hosts : HostTable) (past : List Event) (o : ℕ) (all : AllRest header hosts past) where
  homes : HaveHomes header past
  homes = (common_all header hosts past all).homes

  knows_at : (g : ℕ) (k : Parts) → slice_get hosts.kernels g ≡ Some k
      → knows_file (object_at k.memory.objects o) ≡ (is_some (object_at k.memory.objects o) && is_file header o)
  knows_at g k found = knows_same header o (object_at k.memory.objects o) (λ known is. (all.rests g k found).matches.core.objects.kinds.kinds o known is)

  -- another host knows it, so it isn't in use on this one
  pub known_elsewhere : (h g : ℕ) (k : Parts) → slice_get hosts.kernels g ≡ Some k → g ≢ h → knows_file (object_at k.memory.objects o) ≡ true
      → is_elsewhere header o (Some h) past ≡ true
  known_elsewhere h g k found apart knows =
      let parts = both_true (is_some (object_at k.memory.objects o)) (is_file header o) (sym (knows_at g k found) ∙ knows) in
      let home : home_of o past ≡ Some g = home_is g (home_of o past) ((all.rests g k found).matches.core.objects.files o parts.1 ∙ parts.0) in
      ap (λ b. b && not (in_use header h o past)) parts.1 ∙ by_use (in_use header h o past) refl home
    where
      by_use : (b : Bool) → in_use header h o past ≡ b → home_of o past ≡ Some g → not b ≡ true
      by_use true used home = absurd (apart (sym (homes.stay h g o used home)))
      by_use false unused home = refl

  pub none_more : (h n : ℕ) (k : Parts) → slice_get hosts.kernels n ≡ Some k → (n ≢ h → knows_file (object_at k.memory.objects o) ≡ false)
      → NoneKnows hosts o h n → NoneKnows hosts o h (n + 1)
  none_more h n k at none was g m less apart found = elim (ℕ_discrete g n) [
    | yes same ↦
        let one : Some k ≡ Some m = sym at ∙ (ap (slice_get hosts.kernels) (sym same) ∙ found) in
        subst (λ (z : Parts). knows_file (object_at z.memory.objects o) ≡ false) (same_Some k m one) (none (λ is. apart (same ∙ is)))
    | no other ↦ was g m (omega (arith, less, other)) apart found
  ]

  -- where no other host knows it, it is in use on this one, if it is a file
  pub known_nowhere : (h n : ℕ) → length header.frames.items ≡ n → NoneKnows hosts o h n → is_elsewhere header o (Some h) past ≡ false
  known_nowhere h n count none = by_kind (is_file header o) refl
    where
      in_home : is_file header o ≡ true → (x : Option ℕ) → home_of o past ≡ x → in_use header h o past ≡ true
      in_home file None nowhere = homes.files o h file (inl nowhere)
      in_home file (Some g) home = elim (ℕ_discrete g h) [
        | yes same ↦ homes.files o h file (inr (home ∙ ap Some same))
        | no apart ↦
            let known = all.homes o g home in
            let some = kernel_of header hosts past all g known in
            let here : is_some (object_at some.0.memory.objects o) ≡ true = sym ((all.rests g some.0 some.1).matches.core.objects.files o file)
            ∙ (ap (is_on g) home ∙ same_number g) in
            let knows : knows_file (object_at some.0.memory.objects o) ≡ true = knows_at g some.0 some.1 ∙ rw (here, file) refl in
            let bad : false ≡ true = sym (none g some.0 (omega (arith, known, count)) apart some.1) ∙ knows in
            absurd (cc)
      ]

      by_kind : (b : Bool) → is_file header o ≡ b → (b && not (in_use header h o past)) ≡ false
      by_kind true file = ap not (in_home file (home_of o past) refl)
      by_kind false other = refl
