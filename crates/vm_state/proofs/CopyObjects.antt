-- The copy objects of a host in its tables, while objects come and go and pages are copied up; and the place to which a store owes its page.
use Rattle.std.proofs.Common.{◌≡◌, ◌<◌, ◌≤◌, ◌∙◌, ◌∷◌, ◌==◌, ◌&&◌, ◌||◌, ℕ, Bool, true, false, List, Option, Some, None, ap, arith, refl, sym, subst, inl, inr}
use Rattle.std.proofs.lemmas.Bool.Decides.{eqb_tells}
use Rattle.std.specs.Prelude.{if◌then◌else◌, is_some, IsSome}
use Rattle.vm_abroad.proofs.Home.{copy_temporary}
use Rattle.vm_abroad.proofs.Own.{itself}
use Rattle.vm_abroad.specs.Home.{HaveHomes}
use Rattle.vm_base.specs.declared.ids.HostId.{HostId}
use Rattle.vm_base.specs.declared.ids.ObjectId.{ObjectId}
use Rattle.vm_base.specs.declared.ids.PageKey.{PageKey}
use Rattle.vm_base.specs.declared.ids.PageNo.{PageNo}
use Rattle.vm_copies.specs.Copies.{ClearsHad, CopyRow, CopyTable, EndsCopy, PutsCopy, PutsNewest, among, copy_at, had_at, newest_at, other_than}
use Rattle.vm_fault.specs.Pushes.{Notes, StandsOn, OfCopy, OfOther, owed_at, owed_of}
use Rattle.vm_legal.proofs.Files.{file_named}
use Rattle.vm_legal.specs.Pushes.{OwesPush, is_pushed}
use Rattle.vm_legal.specs.Used.{in_use}
use Rattle.vm_legal.specs.Walks.{page_on}
use Rattle.vm_maps.specs.Maps.{Mapped}
use Rattle.vm_model.specs.declared.event.Event.{Event}
use Rattle.vm_model.specs.declared.event.Event.TheVariants as event
use Rattle.vm_model.specs.declared.script.Header.{Header}
use Rattle.vm_model.specs.Named.{named}
use Rattle.vm_model.specs.Regions.{backing_of, is_copy, newest_copy, region_of}
use Rattle.vm_objects.specs.Objects.{ObjectTable, PutsObject, SameObjects, object_at}
use Rattle.vm_objects.specs.declared.row.ObjectRow.{ObjectRow}
use Rattle.vm_parts.proofs.Rows.{if_true, one_case, some_is}
use Rattle.vm_parts.specs.declared.parts.HostParts.{HostParts}
use Rattle.vm_resident.specs.Resident.{page_key}
use Rattle.vm_shadow.specs.Chains.{ChainTable, region_at, shadow_at}
use Rattle.vm_shadow.specs.declared.ids.Ids.{Ids}
use Rattle.vm_shadow.specs.declared.region_row.RegionRow.{RegionRow}
use Rattle.vm_shadow.specs.declared.shadow_row.ShadowRow.{ShadowRow}
use Rattle.vm_state.proofs.Knowing.{referred_before, referred_other, unknown_before}
use Rattle.vm_state.proofs.PlainObjects.{newest_is_copy}
use Rattle.vm_state.proofs.Reaching.{temporary_down, temporary_up}
use Rattle.vm_state.proofs.Shown.{IsShown, asks_row}
use Rattle.vm_state.specs.CopyObjects.{HasCopyObjects}
use Rattle.vm_state.specs.Stands.{HasKinds, HasRegions}
use Rattle.vm_state.specs.Waiters.{WaitsToPush}
use Rattle.vm_terminate.specs.Finishes.{IsReferred}
use Rattle.vm_waits.specs.declared.waiting.Want.{Want}

-- what is true of the other case of an option is absurd
pub no_row : {A B : Type 0} (found : Option A) (row : A) → found ≡ None → found ≡ Some row → B
no_row found row none some = absurd (let bad : None ≡ Some row = sym none ∙ some in cc)

pub is_known : {A : Type 0} (found : Option A) → IsSome found → (row : A) × (found ≡ Some row)
is_known None known = absurd (let bad : false ≡ true = known in cc)
is_known (Some row) known = (row, refl)

-- an object that is no copy has no copy row
pub plain_row : {is_copy_of : ℕ → Bool} {newest_of : ℕ → Option ℕ} {pushed_at : ℕ → ℕ → Bool} {copies : CopyTable} {os : ObjectTable} (o : ℕ)
    → HasCopyObjects copies os is_copy_of newest_of pushed_at → is_copy_of o ≡ false → copy_at copies o ≡ None
plain_row {is_copy_of = is_copy_of} {copies = copies} o has plain = by (copy_at copies o) refl
  where
    by : (x : Option CopyRow) → copy_at copies o ≡ x → x ≡ None
    by None is = refl
    by (Some row) is = absurd (let bad : false ≡ true = sym plain ∙ has.copy o row is in cc)

-- an object to which something refers has one where it is a copy
pub copy_row : {is_copy_of : ℕ → Bool} {newest_of : ℕ → Option ℕ} {pushed_at : ℕ → ℕ → Bool} {copies : CopyTable} {os : ObjectTable} (o : ℕ)
    → HasCopyObjects copies os is_copy_of newest_of pushed_at → IsReferred os o → is_copy_of o ≡ true → (its : CopyRow) × (copy_at copies o ≡ Some its)
copy_row {copies = copies} o has referred copy = is_known (copy_at copies o) (sym (has.are o referred) ∙ copy)

-- nothing refers to an object without references
pub not_referred : (o : ℕ) (known : ObjectRow) (os : ObjectTable) → object_at os o ≡ Some known → known.references ≡ 0 → IsReferred os o → ⊥
not_referred o known os found none is =
    let same : is.row ≡ known = some_is is.row known (sym is.known ∙ found) in
    let some : 0 < known.references = subst (λ (z : ObjectRow). 0 < z.references) same is.some in
    omega (arith, none, some)

-- the history says what it said of the copy objects that are here, of the objects to which something refers, and of the newest among them
pub record SaysAsMuch (copies : CopyTable) (os : ObjectTable) (is_copy_of is_copy2 : ℕ → Bool) (newest_of newest2 : ℕ → Option ℕ)
    (pushed_at pushed2 : ℕ → ℕ → Bool) : Type 0
  where
    pub are : (o : ℕ) → IsReferred os o → is_copy2 o ≡ is_copy_of o
    pub copy : (c : ℕ) (row : CopyRow) → copy_at copies c ≡ Some row → is_copy2 c ≡ is_copy_of c
    pub newest : (f c : ℕ) → newest2 f ≡ Some c → IsReferred os c → newest_of f ≡ Some c
    pub last : (f : ℕ) (c : ObjectId) → newest_at copies f ≡ Some c → newest2 f ≡ newest_of f
    pub pushed : (c p : ℕ) → pushed2 c p ≡ pushed_at c p

-- events behind which it does, as those of other hosts
pub copies_elsewhere : {is_copy_of is_copy2 : ℕ → Bool} {newest_of newest2 : ℕ → Option ℕ} {pushed_at pushed2 : ℕ → ℕ → Bool} {copies : CopyTable}
    {os : ObjectTable} → SaysAsMuch copies os is_copy_of is_copy2 newest_of newest2 pushed_at pushed2
    → HasCopyObjects copies os is_copy_of newest_of pushed_at → HasCopyObjects copies os is_copy2 newest2 pushed2
copies_elsewhere says has =
    record {
      are = λ o referred. says.are o referred ∙ has.are o referred;
      copy = λ c row found. says.copy c row found ∙ has.copy c row found;
      newest = λ f c is referred. has.newest f c (says.newest f c is referred) referred;
      last = λ f c is. says.last f c is ∙ has.last f c is;
      had = λ c row found p. has.had c row found p ∙ sym (says.pushed c p);
      unpushed = λ o p none. says.pushed o p ∙ has.unpushed o p none;
    }

-- events behind which objects are copies as they were, files have the newest that they had, and nothing was copied up into a copy object
pub copies_silent : {is_copy_of is_copy2 : ℕ → Bool} {newest_of newest2 : ℕ → Option ℕ} {pushed_at pushed2 : ℕ → ℕ → Bool} {copies : CopyTable}
    {os : ObjectTable}
    → HasCopyObjects copies os is_copy_of newest_of pushed_at → ((o : ℕ) → is_copy2 o ≡ is_copy_of o) → ((f : ℕ) → newest2 f ≡ newest_of f)
    → ((c p : ℕ) → pushed2 c p ≡ pushed_at c p) → HasCopyObjects copies os is_copy2 newest2 pushed2
copies_silent has same newest pushed =
    copies_elsewhere (record {
      are = λ o referred. same o;
      copy = λ c row found. same c;
      newest = λ f c is referred. sym (newest f) ∙ is;
      last = λ f c is. newest f;
      pushed = pushed;
    }) has

-- no more objects are referred to than were, and all are known that were
pub copies_fewer : {is_copy_of : ℕ → Bool} {newest_of : ℕ → Option ℕ} {pushed_at : ℕ → ℕ → Bool} {copies : CopyTable} {os os2 : ObjectTable}
    → ((o : ℕ) → IsReferred os2 o → IsReferred os o) → ((o : ℕ) → object_at os2 o ≡ None → object_at os o ≡ None)
    → HasCopyObjects copies os is_copy_of newest_of pushed_at → HasCopyObjects copies os2 is_copy_of newest_of pushed_at
copies_fewer before unknown has =
    record {
      are = λ o referred. has.are o (before o referred);
      copy = has.copy;
      newest = λ f c is referred. has.newest f c is (before c referred);
      last = has.last;
      had = has.had;
      unpushed = λ o p none. has.unpushed o p (unknown o none);
    }

-- all objects are known as they were
pub copies_same : {is_copy_of : ℕ → Bool} {newest_of : ℕ → Option ℕ} {pushed_at : ℕ → ℕ → Bool} {copies : CopyTable} {os os2 : ObjectTable} → SameObjects os os2
    → HasCopyObjects copies os is_copy_of newest_of pushed_at → HasCopyObjects copies os2 is_copy_of newest_of pushed_at
copies_same same has =
    copies_fewer (λ o is. record { row = is.row; known = sym (same.at o) ∙ is.known; some = is.some }) (λ o none. sym (same.at o) ∙ none) has

-- one object is known otherwise, and referred to only where it was
pub copies_put : {is_copy_of : ℕ → Bool} {newest_of : ℕ → Option ℕ} {pushed_at : ℕ → ℕ → Bool} {copies : CopyTable} (o : ℕ) (new : ObjectRow)
    (os os2 : ObjectTable) → PutsObject o (Some new) os os2 → (0 < new.references → IsReferred os o)
    → HasCopyObjects copies os is_copy_of newest_of pushed_at → HasCopyObjects copies os2 is_copy_of newest_of pushed_at
copies_put o new os os2 put before has = copies_fewer (referred_before o new os os2 put before) (unknown_before o new os os2 put) has

-- one more object is known, or referred to, that is no copy, nor any file's newest
pub copies_new : {is_copy_of : ℕ → Bool} {newest_of : ℕ → Option ℕ} {pushed_at : ℕ → ℕ → Bool} {copies : CopyTable} (o : ℕ) (new : ObjectRow)
    (os os2 : ObjectTable) → PutsObject o (Some new) os os2 → is_copy_of o ≡ false → ((f : ℕ) → newest_of f ≡ Some o → ⊥)
    → HasCopyObjects copies os is_copy_of newest_of pushed_at → HasCopyObjects copies os2 is_copy_of newest_of pushed_at
copies_new {is_copy_of = is_copy_of} {newest_of = newest_of} {copies = copies} o new os os2 put plain bare has =
    record {
      are = λ x referred. elim (eqb_tells o x) [
        | inl this ↦ ap is_copy_of (sym this.1) ∙ (plain ∙ sym (ap is_some (ap (copy_at copies) (sym this.1) ∙ plain_row o has plain)))
        | inr other ↦ has.are x (referred_other o new os os2 put x other.1 referred)
      ];
      copy = has.copy;
      newest = λ f c is referred. elim (eqb_tells o c) [
        | inl this ↦ absurd (bare f (is ∙ ap (λ (z : ℕ). Some z) (sym this.1)))
        | inr other ↦ has.newest f c is (referred_other o new os os2 put c other.1 referred)
      ];
      last = has.last;
      had = has.had;
      unpushed = λ x p none. has.unpushed x p (unknown_before o new os os2 put x none);
    }

-- a file gets a copy object, which is its newest now and has had no page
pub record BeginsCopy (source : ObjectId) (copy : ObjectId) (row : CopyRow) (old new : CopyTable) : Type 0 where
  pub put : PutsCopy copy.0 (Some row) old new
  pub had : ClearsHad copy.0 old new
  pub newest : PutsNewest source.0 (Some copy) old new

-- so says the history: nothing was copied up into it, and it was no file's newest
pub record IsNewCopy (source copy : ℕ) (is_copy_of is_copy2 : ℕ → Bool) (newest_of newest2 : ℕ → Option ℕ) (pushed_at pushed2 : ℕ → ℕ → Bool) : Type 0 where
  pub copies : (o : ℕ) → is_copy2 o ≡ (o == copy || is_copy_of o)
  pub newest : (f : ℕ) → newest2 f ≡ (if f == source then Some copy else newest_of f)
  pub pushed : (c p : ℕ) → pushed2 c p ≡ pushed_at c p
  pub bare : (p : ℕ) → pushed_at copy p ≡ false
  pub unmade : (f : ℕ) → newest_of f ≡ Some copy → ⊥

pub copies_begun : {is_copy_of is_copy2 : ℕ → Bool} {newest_of newest2 : ℕ → Option ℕ} {pushed_at pushed2 : ℕ → ℕ → Bool} {copies copies2 : CopyTable}
    (source copy : ObjectId) (row : CopyRow) (new : ObjectRow) (os os2 : ObjectTable) → PutsObject copy.0 (Some new) os os2
    → BeginsCopy source copy row copies copies2 → IsNewCopy source.0 copy.0 is_copy_of is_copy2 newest_of newest2 pushed_at pushed2
    → HasCopyObjects copies os is_copy_of newest_of pushed_at → HasCopyObjects copies2 os2 is_copy2 newest2 pushed2
copies_begun {is_copy_of = is_copy_of} {is_copy2 = is_copy2} {newest_of = newest_of} {newest2 = newest2} {pushed_at = pushed_at} {pushed2 = pushed2}
    {copies = copies} {copies2 = copies2} source copy row new os os2 put begins says has =
    record {
      are = λ x referred. elim (eqb_tells copy.0 x) [
        | inl this ↦ subst (λ (z : ℕ). is_copy2 z ≡ is_some (copy_at copies2 z)) this.1 (is_one ∙ sym (ap is_some here))
        | inr other ↦
            copy_else x other.1
            ∙ (has.are x (referred_other copy.0 new os os2 put x other.1 referred) ∙ ap is_some (sym (row_else x other.1)))
      ];
      copy = λ c its is. elim (eqb_tells copy.0 c) [
        | inl this ↦ ap is_copy2 (sym this.1) ∙ is_one
        | inr other ↦ copy_else c other.1 ∙ has.copy c its (sym (row_else c other.1) ∙ is)
      ];
      newest = λ f c is referred. newest_now f c is referred;
      last = λ f c is. elim (one_case source.0 f (Some copy) (newest_at copies f) (newest_at copies2 f) (begins.newest.at f)) [
        | inl this ↦ newest_its f (sym this.0) ∙ ap (λ (z : ObjectId). Some z.0) (some_is copy c (sym this.1 ∙ is))
        | inr other ↦ newest_else f (λ same. other.0 (sym same)) ∙ has.last f c (sym other.1 ∙ is)
      ];
      had = λ c its is p. elim (one_case copy.0 c false (had_at copies c p) (had_at copies2 c p) (begins.had.at c p)) [
        | inl this ↦ this.1 ∙ sym (says.pushed c p ∙ (ap (λ z. pushed_at z p) (sym this.0) ∙ says.bare p))
        | inr other ↦ other.1 ∙ (has.had c its (sym (row_else c other.0) ∙ is) p ∙ sym (says.pushed c p))
      ];
      unpushed = λ o p none. says.pushed o p ∙ has.unpushed o p (unknown_before copy.0 new os os2 put o none);
    }
  where
    is_one : is_copy2 copy.0 ≡ true
    is_one = says.copies copy.0 ∙ ap (λ b. b || is_copy_of copy.0) (itself copy.0)

    here : copy_at copies2 copy.0 ≡ Some row
    here = if_true copy.0 (Some row) (copy_at copies copy.0) (copy_at copies2 copy.0) (begins.put.at copy.0)

    row_else : (c : ℕ) → (copy.0 ≡ c → ⊥) → copy_at copies2 c ≡ copy_at copies c
    row_else c apart = elim (one_case copy.0 c (Some row) (copy_at copies c) (copy_at copies2 c) (begins.put.at c)) [
      | inl this ↦ absurd (apart this.0)
      | inr other ↦ other.1
    ]

    copy_else : (x : ℕ) → (copy.0 ≡ x → ⊥) → is_copy2 x ≡ is_copy_of x
    copy_else x apart = elim (eqb_tells x copy.0) [
      | inl same ↦ absurd (apart (sym same.1))
      | inr other ↦ says.copies x ∙ ap (λ b. b || is_copy_of x) other.0
    ]

    newest_its : (f : ℕ) → f ≡ source.0 → newest2 f ≡ Some copy.0
    newest_its f same = elim (eqb_tells f source.0) [
      | inl it ↦ says.newest f ∙ ap (λ b. if b then Some copy.0 else newest_of f) it.0
      | inr other ↦ absurd (other.1 same)
    ]

    newest_else : (f : ℕ) → (f ≡ source.0 → ⊥) → newest2 f ≡ newest_of f
    newest_else f apart = elim (eqb_tells f source.0) [
      | inl same ↦ absurd (apart same.1)
      | inr other ↦ says.newest f ∙ ap (λ b. if b then Some copy.0 else newest_of f) other.0
    ]

    newest_now : (f c : ℕ) → newest2 f ≡ Some c → IsReferred os2 c → newest_at copies2 f ≡ Some (record { 0 = c })
    newest_now f c is referred = elim (one_case source.0 f (Some copy) (newest_at copies f) (newest_at copies2 f) (begins.newest.at f)) [
      | inl this ↦ this.1 ∙ ap (λ (z : ℕ). Some (record { 0 = z })) (some_is copy.0 c (sym (newest_its f (sym this.0)) ∙ is))
      | inr other ↦
          let was : newest_of f ≡ Some c = sym (newest_else f (λ same. other.0 (sym same))) ∙ is in
          other.1 ∙ has.newest f c was (before f c was referred)
    ]
      where
        before : (g d : ℕ) → newest_of g ≡ Some d → IsReferred os2 d → IsReferred os d
        before g d its referred =
            referred_other copy.0 new os os2 put d (λ same. says.unmade g (its ∙ ap (λ (z : ℕ). Some z) (sym same))) referred

other_is : (o c : ℕ) → (o ≡ c → ⊥) → other_than o (Some (record { 0 = c })) ≡ Some (record { 0 = c })
other_is o c apart = elim (eqb_tells c o) [
  | inl same ↦ absurd (apart (sym same.1))
  | inr other ↦ ap (λ b. if b then None else Some (record { 0 = c })) other.0
]

other_was : (o : ℕ) (x : Option ObjectId) (c : ObjectId) → other_than o x ≡ Some c → x ≡ Some c
other_was o None c is = absurd (let bad : ◌≡◌ {A = Option ObjectId} None (Some c) = is in cc)
other_was o (Some d) c is = by (d.0 == o) is
  where
    by : (b : Bool) → (if b then None else Some d) ≡ Some c → Some d ≡ Some c
    by true none = absurd (let bad : ◌≡◌ {A = Option ObjectId} None (Some c) = none in cc)
    by false one = one

-- each other copy object has had what it had
pub ended_had : {o : ℕ} {row : CopyRow} {copies copies2 : CopyTable} → EndsCopy o row copies copies2 → (x p : ℕ) → (o ≡ x → ⊥)
    → had_at copies2 x p ≡ had_at copies x p
ended_had {o = o} {copies = copies} {copies2 = copies2} ends x p apart = elim (one_case o x false (had_at copies x p) (had_at copies2 x p) (ends.had.at x p)) [
  | inl this ↦ absurd (apart this.0)
  | inr other ↦ other.1
]

-- and where it is a file's newest, it is so still
pub ended_newest : {o : ℕ} {row : CopyRow} {copies copies2 : CopyTable} → EndsCopy o row copies copies2 → (f c : ℕ) → (o ≡ c → ⊥)
    → newest_at copies f ≡ Some (record { 0 = c }) → newest_at copies2 f ≡ Some (record { 0 = c })
ended_newest {o = o} {row = row} {copies = copies} {copies2 = copies2} ends f c apart was =
    elim (one_case row.source.0 f (other_than o (newest_at copies row.source.0)) (newest_at copies f) (newest_at copies2 f) (ends.newest.at f)) [
      | inl this ↦ this.1 ∙ (ap (other_than o) (ap (newest_at copies) this.0 ∙ was) ∙ other_is o c apart)
      | inr other ↦ other.1 ∙ was
    ]

-- what is a file's newest now was so before
pub newest_was : {o : ℕ} {row : CopyRow} {copies copies2 : CopyTable} → EndsCopy o row copies copies2 → (f : ℕ) (c : ObjectId) → newest_at copies2 f ≡ Some c
    → newest_at copies f ≡ Some c
newest_was {o = o} {row = row} {copies = copies} {copies2 = copies2} ends f c is =
    elim (one_case row.source.0 f (other_than o (newest_at copies row.source.0)) (newest_at copies f) (newest_at copies2 f) (ends.newest.at f)) [
      | inl this ↦ ap (newest_at copies) (sym this.0) ∙ other_was o (newest_at copies row.source.0) c (sym this.1 ∙ is)
      | inr other ↦ sym other.1 ∙ is
    ]

-- the rows of the others stay
pub ended_row : {o : ℕ} {row : CopyRow} {copies copies2 : CopyTable} → EndsCopy o row copies copies2 → (x : ℕ) → (o ≡ x → ⊥)
    → copy_at copies2 x ≡ copy_at copies x
ended_row {o = o} {copies = copies} {copies2 = copies2} ends x apart = elim (one_case o x None (copy_at copies x) (copy_at copies2 x) (ends.gone.at x)) [
  | inl this ↦ absurd (apart this.0)
  | inr other ↦ other.1
]

-- and each that is there is another's
pub ended_before : {o : ℕ} {row : CopyRow} {copies copies2 : CopyTable} → EndsCopy o row copies copies2 → (c : ℕ) (its : CopyRow)
    → copy_at copies2 c ≡ Some its → (o ≡ c → ⊥) × (copy_at copies c ≡ Some its)
ended_before {o = o} {copies = copies} {copies2 = copies2} ends c its is =
    elim (one_case o c None (copy_at copies c) (copy_at copies2 c) (ends.gone.at c)) [
      | inl this ↦ no_row (copy_at copies2 c) its this.1 is
      | inr other ↦ (other.0, sym other.1 ∙ is)
    ]

-- a copy object ends to which nothing refers
pub copies_ended : {is_copy_of : ℕ → Bool} {newest_of : ℕ → Option ℕ} {pushed_at : ℕ → ℕ → Bool} {copies copies2 : CopyTable} {os : ObjectTable}
    (o : ℕ) (row : CopyRow) → EndsCopy o row copies copies2 → (IsReferred os o → ⊥) → HasCopyObjects copies os is_copy_of newest_of pushed_at
    → HasCopyObjects copies2 os is_copy_of newest_of pushed_at
copies_ended {os = os} o row ends none has =
    record {
      are = λ x referred. has.are x referred ∙ ap is_some (sym (ended_row ends x (apart x referred)));
      copy = λ c its is. has.copy c its (ended_before ends c its is).1;
      newest = λ f c is referred. ended_newest ends f c (apart c referred) (has.newest f c is referred);
      last = λ f c is. has.last f c (newest_was ends f c is);
      had = λ c its is p. let was = ended_before ends c its is in ended_had ends c p was.0 ∙ has.had c its was.1 p;
      unpushed = has.unpushed;
    }
  where
    apart : (x : ℕ) → IsReferred os x → o ≡ x → ⊥
    apart x referred same = none (subst (λ (z : ℕ). IsReferred os z) (sym same) referred)

-- a page comes to a place

-- into that place, and nowhere else, a page was copied up
abbrev pub PushesInto : PageKey → (ℕ → ℕ → Bool) → (ℕ → ℕ → Bool) → Type 0
PushesInto key old new = (c p : ℕ) → new c p ≡ (if (key.object.0 == c) && (key.page.0 == p) then true else old c p)

pub pushed_raised : (at : HostId) (lower : ObjectId) (lower_page : PageNo) (upper : ObjectId) (upper_page : PageNo) (past : List Event)
    → PushesInto (record { object = upper; page = upper_page }) (λ c p. is_pushed at.0 c p past)
    (λ c p. is_pushed at.0 c p (event.Raised at lower lower_page upper upper_page ∷ past))
pushed_raised at lower lower_page upper upper_page past c p =
    ap (λ b. (b && ((upper.0 == c) && (upper_page.0 == p))) || is_pushed at.0 c p past) (itself at.0) ∙ by ((upper.0 == c) && (upper_page.0 == p))
  where
    by : (b : Bool) → (b || is_pushed at.0 c p past) ≡ (if b then true else is_pushed at.0 c p past)
    by true = refl
    by false = refl

-- that is one of an object that is known
unpushed_noted : {is_copy_of : ℕ → Bool} {newest_of : ℕ → Option ℕ} {pushed_at pushed2 : ℕ → ℕ → Bool} {copies : CopyTable} {os : ObjectTable}
    (key : PageKey) → IsSome (object_at os key.object.0) → PushesInto key pushed_at pushed2 → HasCopyObjects copies os is_copy_of newest_of pushed_at
    → (o p : ℕ) → object_at os o ≡ None → pushed2 o p ≡ false
unpushed_noted {pushed_at = pushed_at} {os = os} key known pushes has o p none = elim (eqb_tells key.object.0 o) [
  | inl this ↦ let its = is_known (object_at os key.object.0) known in no_row (object_at os key.object.0) its.0 (ap (object_at os) this.1 ∙ none) its.1
  | inr other ↦ pushes o p ∙ (ap (λ b. if b && (key.page.0 == p) then true else pushed_at o p) other.0 ∙ has.unpushed o p none)
]

-- so each copy object has had what was copied up into it still
pub copies_noted : {is_copy_of : ℕ → Bool} {newest_of : ℕ → Option ℕ} {pushed_at pushed2 : ℕ → ℕ → Bool} {copies copies2 : CopyTable} {os : ObjectTable}
    (key : PageKey) → IsSome (object_at os key.object.0)
    → Notes key copies copies2 → PushesInto key pushed_at pushed2 → HasCopyObjects copies os is_copy_of newest_of pushed_at
    → HasCopyObjects copies2 os is_copy_of newest_of pushed2
copies_noted {is_copy_of = is_copy_of} {newest_of = newest_of} {pushed_at = pushed_at} {pushed2 = pushed2} {copies = copies} {os = os} key known
    (OfOther none same) pushes has =
    subst (λ (z : CopyTable). HasCopyObjects z os is_copy_of newest_of pushed2) (sym same)
    (record {
      are = has.are;
      copy = has.copy;
      newest = has.newest;
      last = has.last;
      had = λ c row found p. has.had c row found p ∙ sym (beside c p row found);
      unpushed = unpushed_noted key known pushes has;
    })
  where
    beside : (c p : ℕ) (row : CopyRow) → copy_at copies c ≡ Some row → pushed2 c p ≡ pushed_at c p
    beside c p row found = elim (eqb_tells key.object.0 c) [
      | inl this ↦ no_row (copy_at copies key.object.0) row none (ap (copy_at copies) this.1 ∙ found)
      | inr other ↦ pushes c p ∙ ap (λ b. if b && (key.page.0 == p) then true else pushed_at c p) other.0
    ]
copies_noted {is_copy_of = is_copy_of} {pushed_at = pushed_at} {pushed2 = pushed2} {copies = copies} {copies2 = copies2} {os = os} key known
    (OfCopy row found put noted newest room) pushes has =
    record {
      are = λ o referred. has.are o referred ∙ sym (known_same o);
      copy = λ c its is. let was = is_known (copy_at copies c) (sym (known_same c) ∙ ap is_some is) in has.copy c was.0 was.1;
      newest = λ f c is referred. newest_same f ∙ has.newest f c is referred;
      last = λ f c is. has.last f c (sym (newest_same f) ∙ is);
      had = λ c its is p.
          let was = is_known (copy_at copies c) (sym (known_same c) ∙ ap is_some is) in
          noted.at c p ∙ (ap (λ z. if (key.object.0 == c) && (key.page.0 == p) then true else z) (has.had c was.0 was.1 p) ∙ sym (pushes c p));
      unpushed = unpushed_noted key known pushes has;
    }
  where
    known_same : (c : ℕ) → is_some (copy_at copies2 c) ≡ is_some (copy_at copies c)
    known_same c = elim (one_case key.object.0 c _ (copy_at copies c) (copy_at copies2 c) (put.at c)) [
      | inl this ↦ ap is_some this.1 ∙ sym (ap is_some (ap (copy_at copies) (sym this.0) ∙ found))
      | inr other ↦ ap is_some other.1
    ]

    newest_same : (f : ℕ) → newest_at copies2 f ≡ newest_at copies f
    newest_same f = ap (among f) newest

-- to which place a store owes its page

pub owed_some : (copies : CopyTable) (key place : PageKey) → owed_at copies key ≡ Some place
    → (newest_at copies key.object.0 ≡ Some place.object) × ((had_at copies place.object.0 key.page.0 ≡ false) × (place ≡ record key { object = place.object }))
owed_some copies key place owed = by (newest_at copies key.object.0) owed
  where
    by : (x : Option ObjectId) → owed_of copies key.page x ≡ Some place
        → (x ≡ Some place.object) × ((had_at copies place.object.0 key.page.0 ≡ false) × (place ≡ record key { object = place.object }))
    by None is = absurd (let bad : ◌≡◌ {A = Option PageKey} None (Some place) = is in cc)
    by (Some c) is = by_had (had_at copies c.0 key.page.0) refl is
      where
        by_had : (b : Bool) → had_at copies c.0 key.page.0 ≡ b → (if b then None else Some (record { object = c; page = key.page })) ≡ Some place
            → (Some c ≡ Some place.object) × ((had_at copies place.object.0 key.page.0 ≡ false) × (place ≡ record key { object = place.object }))
        by_had true had none = absurd (let bad : ◌≡◌ {A = Option PageKey} None (Some place) = none in cc)
        by_had false had one =
            let same : record { object = c; page = key.page } ≡ place = some_is (record { object = c; page = key.page }) place one in
            let its : c ≡ place.object = ap (λ (z : PageKey). z.object) same in (
              ap (λ (z : ObjectId). Some z) its,
              (
                subst (λ (z : ObjectId). had_at copies z.0 key.page.0 ≡ false) its had,
                sym same ∙ ap (λ (z : ObjectId). record { object = z; page = key.page }) its,
              ),
            )

-- and the other way round
pub owed_from : (copies : CopyTable) (key place : PageKey) → newest_at copies key.object.0 ≡ Some place.object → had_at copies place.object.0 key.page.0 ≡ false
    → place ≡ record key { object = place.object } → owed_at copies key ≡ Some place
owed_from copies key place newest had is =
    ap (owed_of copies key.page) newest
    ∙ (ap (λ b. if b then None else Some (record key { object = place.object })) had ∙ ap (λ (z : PageKey). Some z) (sym is))

-- what the history says of copies
abbrev pub HasCopies : CopyTable → ObjectTable → ℕ → List Event → Type 0
HasCopies copies objects h past = HasCopyObjects copies objects (λ o. is_copy o past) (λ f. newest_copy f past) (λ c p. is_pushed h c p past)

-- a temporary object has no copies
pub temporary_uncopied : {copies : CopyTable} {objects : ObjectTable} (header : Header) (h : ℕ) (past : List Event) (o : ℕ)
    → HasCopies copies objects h past → HaveHomes header past → named header ≤ o → newest_at copies o ≡ None
temporary_uncopied {copies = copies} header h past o has homes least = by (newest_at copies o) refl
  where
    by : (x : Option ObjectId) → newest_at copies o ≡ x → x ≡ None
    by None is = refl
    by (Some c) is =
        let low = file_named header o (homes.copies o c.0 (has.last o c is)).file in
        absurd (omega (arith, low, least))

-- what the history says is owed is owed by the tables, where what is reached is known
pub owed_told : {header : Header} {h : ℕ} {chains : ChainTable} {objects : ObjectTable} {copies : CopyTable} {ids : Ids}
    {regions_made objects_made marked : ℕ} {past : List Event}
    → HasRegions chains objects ids (λ r. region_of header r past) (λ o. backing_of header o past) regions_made objects_made marked → HaveHomes header past
    → ((r : ℕ) → named header ≤ r → in_use header h r past ≡ true → (row : RegionRow) × (region_at chains r ≡ Some row))
    → HasCopies copies objects h past → (o p c : ℕ) → OwesPush header h o p c past → owed_at copies (page_key o p) ≡ Some (page_key c p)
owed_told {header = header} {h = h} {objects = objects} {copies = copies} {past = past} regions homes there has o p c owes =
    ap (owed_of copies (record { 0 = p })) (has.newest o c owes.newest known)
    ∙ ap (λ b. if b then None else Some (page_key c p)) (has.had c its.0 its.1 p ∙ owes.unpushed)
  where
    known : IsReferred objects c
    known = temporary_down regions homes (λ r. in_use header h r past) there c (copy_temporary header o c past homes owes.newest) owes.lives

    its : (row : CopyRow) × (copy_at copies c ≡ Some row)
    its = copy_row c has known (newest_is_copy o c past owes.newest)

-- and the other way round, where what is known is reached, and each newest copy is known and stands on its file
pub told_owed : {header : Header} {h : ℕ} {parts : HostParts} {chains : ChainTable} {objects : ObjectTable} {copies : CopyTable} {ids : Ids}
    {regions_made objects_made marked : ℕ} {past : List Event}
    → HasRegions chains objects ids (λ r. region_of header r past) (λ o. backing_of header o past) regions_made objects_made marked
    → HasKinds header objects chains → HaveHomes header past
    → ((s : ℕ) (row : ShadowRow) → shadow_at chains s ≡ Some row → IsReferred objects s)
    → ((r : ℕ) (row : RegionRow) → named header ≤ r → region_at chains r ≡ Some row → in_use header h r past ≡ true)
    → HasCopies copies objects h past → ((s : ℕ) (c : ObjectId) → newest_at copies s ≡ Some c → StandsOn parts chains s c.0)
    → (o p : ℕ) (place : PageKey) → owed_at copies (page_key o p) ≡ Some place → OwesPush header h o p place.object.0 past
told_owed {header = header} {h = h} {parts = parts} {chains = chains} {objects = objects} {copies = copies} {past = past} regions kinds homes
    shadows all has stands o p place owed =
    record {
      file = (homes.copies o place.object.0 newest).file;
      newest = newest;
      lives = temporary_up regions kinds homes shadows (λ r. in_use header h r past) all place.object.0
          (copy_temporary header o place.object.0 past homes newest) (shadows place.object.0 on.row on.found);
      unpushed = sym (has.had place.object.0 its.0 its.1 p) ∙ (owed_some copies (page_key o p) place owed).1.0;
    }
  where
    first : newest_at copies o ≡ Some place.object
    first = (owed_some copies (page_key o p) place owed).0

    newest : newest_copy o past ≡ Some place.object.0
    newest = has.last o place.object first

    on : StandsOn parts chains o place.object.0
    on = stands o place.object first

    its : (row : CopyRow) × (copy_at copies place.object.0 ≡ Some row)
    its = copy_row place.object.0 has (shadows place.object.0 on.row on.found) (newest_is_copy o place.object.0 past newest)

-- a store that waits to push its page owes it, and the place is asked
pub push_told : {header : Header} {h : ℕ} {parts : HostParts} {chains : ChainTable} {copies : CopyTable} {ids : Ids}
    {regions_made objects_made marked : ℕ} {past : List Event}
    → IsShown header h parts chains past
    → HasRegions chains parts.objects ids (λ r. region_of header r past) (λ o. backing_of header o past) regions_made objects_made marked
    → HasKinds header parts.objects chains → HaveHomes header past
    → ((s : ℕ) (row : ShadowRow) → shadow_at chains s ≡ Some row → IsReferred parts.objects s)
    → ((r : ℕ) (row : RegionRow) → named header ≤ r → region_at chains r ≡ Some row → in_use header h r past ≡ true)
    → HasCopies copies parts.objects h past → ((s : ℕ) (c : ObjectId) → newest_at copies s ≡ Some c → StandsOn parts chains s c.0)
    → (maps : Mapped) (task : ℕ) (what : Want) (key : PageKey) (push : WaitsToPush maps chains copies parts.resident task what key)
    → OwesPush header h push.top.object.0 push.top.page.0 key.object.0 past × ((page_on header h key.object.0 push.top.page.0 past).asked ≡ true)
push_told {header = header} {h = h} {copies = copies} {past = past} shown regions kinds homes shadows all has stands maps task what key push = (
  told_owed regions kinds homes shadows all has stands push.top.object.0 push.top.page.0 key push.owed,
  subst (λ (z : PageKey). (page_on header h key.object.0 z.page.0 past).asked ≡ true) (owed_some copies push.top key push.owed).1.1
      (asks_row shown key.object.0 key.page.0 push.asked.row push.asked.found push.asked.away).asked,
)
