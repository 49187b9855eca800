-- What a set of pages holds after a write to a group, and where its first page is from one on.
use Rattle.std.proofs.Common.{ℕ, ◌≡◌, ◌<◌, ◌≤◌, ◌/◌, ◌%◌, ◌^◌, ◌==◌, Bool, true, false, List, Option, Some, None, inl, inr, refl, sym, ◌∙◌, ap, arith}
use Rattle.std.proofs.lemmas.Bool.{false≢true}
use Rattle.std.proofs.lemmas.Bool.Decides.{eqb_tells, nat_tests}
use Rattle.std.specs.Option.{unwrap_or}
use Rattle.std.specs.Prelude.{◌&&◌, IsOk, IsSome, OnOk, Result, if◌then◌else◌}
use Rattle.std.specs.declared.result.Result.TheVariants.{Err, Ok}
use Rattle.vm_base.specs.declared.ids.PageKey.{PageKey}
use Rattle.vm_sets.proofs.Bits.{IsFirstBit, bits_put}
use Rattle.vm_sets.specs.Bits.{WritesBit}
use Rattle.vm_sets.specs.Groups.{AreBelow, IsFirstAmong, PageSet, PutsAmong, bits_in, group_at, group_in, is_among, no_pages}
use Rattle.vm_sets.specs.declared.group_key.GroupKey.{GroupKey}
use Rattle.vm_sets.specs.declared.page_groups.Group.{Group}

-- what holds of a call that succeeds
pub ok_has : {T E P : Type 0} (r : Result T E) → IsOk r → OnOk r P → P
ok_has (Ok x) ok has = has
ok_has (Err e) ok has = absurd (false≢true ok)

-- one group is this one now, or is not kept, and each other group is what it was
abbrev pub WritesGroup : GroupKey → Option Group → List (GroupKey × Group) → List (GroupKey × Group) → Type 0
WritesGroup at group old new = (o g : ℕ) → group_at o g new ≡ (if at.object.0 == o && at.group == g then group else group_at o g old)

pub put_among : (marked : Bool) (old new : PageSet) (key : PageKey) (at : GroupKey) (was group : Group) (kept : Option Group) (now : Bool)
    → at.object ≡ key.object → at.group ≡ key.page.0 / 64 → was ≡ group_in old at.object.0 at.group
    → unwrap_or kept no_pages ≡ group → WritesBit (key.page.0 % 64) now (bits_in marked was) (bits_in marked group)
    → WritesGroup at kept old.groups new.groups → PutsAmong marked key.object.0 key.page.0 now old new
put_among marked old new key at was group kept now object of before is bit writes = record {
  at = bits_put (λ o g. bits_in marked (group_in old o g)) (λ o g. bits_in marked (group_in new o g)) key at (bits_in marked group) now object of
      (rw before at bit) (λ o g. ap (λ z. bits_in marked (unwrap_or z no_pages)) (writes o g) ∙ by (at.object.0 == o && at.group == g) o g);
} where
  by : (b : Bool) (o g : ℕ) → bits_in marked (unwrap_or (if b then kept else group_at o g old.groups) no_pages)
      ≡ (if b then bits_in marked group else bits_in marked (group_in old o g))
  by true o g = ap (bits_in marked) is
  by false o g = refl

-- a page that is among them as before leaves each as it was
pub same_among : (marked : Bool) (old new : PageSet) (object page : ℕ) (now : Bool) → PutsAmong marked object page now old new
    → is_among marked old object page ≡ now → (o p : ℕ) → is_among marked new o p ≡ is_among marked old o p
same_among marked old new object page now puts was o p =
    elim (eqb_tells object o) [
      | inl one ↦ elim (eqb_tells page p) [
        | inl two ↦ puts.at o p ∙ (rw (one.0, two.0) (sym was ∙ ap (λ z. is_among marked old z page) one.1 ∙ ap (is_among marked old o) two.1))
        | inr apart ↦ rw (one.0, apart.0) at (puts.at o p)
      ]
      | inr other ↦ rw other.0 at (puts.at o p)
    ]

pub empty_is : (group : Group) → group.pages ≡ 0 → group.marked ≡ 0 → no_pages ≡ group
empty_is group pages marked =
    ap (λ z. record { pages = z; marked = 0 }) (sym pages) ∙ ap (λ z. record { pages = group.pages; marked = z }) (sym marked)

-- of two writes of one group the second counts
pub writes_twice : (at : GroupKey) (first second : Option Group) (old mid new : List (GroupKey × Group)) → WritesGroup at first old mid
    → WritesGroup at second mid new → WritesGroup at second old new
writes_twice at first second old mid new one two o g = two o g ∙ by (at.object.0 == o && at.group == g) (one o g)
  where
    by : (same : Bool) → group_at o g mid ≡ (if same then first else group_at o g old)
        → (if same then second else group_at o g mid) ≡ (if same then second else group_at o g old)
    by true is = refl
    by false is = is

pub some_of : {A : Type 0} (o : Option A) (x : A) → o ≡ Some x → IsSome o
some_of o x is = rw is refl

pub below_written : (old new : List (GroupKey × Group)) (bound : ℕ) (at : GroupKey) (group : Option Group) → AreBelow bound old → at.group < bound
    → WritesGroup at group old new → AreBelow bound new
below_written old new bound at group below less writes = record {
  end = below.end;
  at = λ o g is found. elim (eqb_tells at.group g) [
    | inl same ↦ omega (arith, same.1)
    | inr apart ↦ below.at o g is (let told = writes o g in grind (arith, nat_tests, told, apart.0, found))
  ];
}

pub below_gone : (old new : List (GroupKey × Group)) (bound : ℕ) (at : GroupKey) → AreBelow bound old → WritesGroup at None old new → AreBelow bound new
below_gone old new bound at below writes = record {
  end = below.end;
  at = λ o g is found. below.at o g is (let told = writes o g in grind (arith, nat_tests, told, found));
}

-- a group that is kept is another
pub below_set : (old new : List (GroupKey × Group)) (bound : ℕ) (at : GroupKey) (was group : Group) → AreBelow bound old
    → group_at at.object.0 at.group old ≡ Some was → WritesGroup at (Some group) old new → AreBelow bound new
below_set old new bound at was group below there writes =
    below_written old new bound at (Some group) below (below.at at.object.0 at.group was there) writes

pub below_wider : (groups : List (GroupKey × Group)) (bound wider : ℕ) → AreBelow bound groups → bound ≤ wider → wider ≤ 2 ^ 26 → AreBelow wider groups
below_wider groups bound wider below le fits = record {
  end = fits;
  at = λ o g is found. let less = below.at o g is found in omega arith;
}

nothing : (marked : Bool) → bits_in marked no_pages ≡ 0
nothing true = refl
nothing false = refl

-- a group behind the end has no page
pub no_bits : (marked : Bool) (set : PageSet) (o g bound : ℕ) → AreBelow bound set.groups → bound ≤ g → bits_in marked (group_in set o g) ≡ 0
no_bits marked set o g bound below past = by (group_at o g set.groups) refl
  where
    by : (kept : Option Group) → group_at o g set.groups ≡ kept → bits_in marked (unwrap_or kept no_pages) ≡ 0
    by None is = nothing marked
    by (Some group) is = absurd (let less = below.at o g group is in omega arith)

pub first_among : (marked : Bool) (set : PageSet) (o from page : ℕ) → IsFirstBit (λ g. bits_in marked (group_in set o g)) from page
    → IsFirstAmong marked set o from page
first_among marked set o from page is = record { low = is.low; there = is.there; first = is.first }
