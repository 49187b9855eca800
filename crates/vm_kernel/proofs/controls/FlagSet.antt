-- A declared object stays on its host without an entry from now on, or no more: its row has another flag, which counts as a reference.
use Rattle.vm_kernel.proofs.Common.{Bool, EndsObject, Event, HasWaits, Header, Ids, IsPagerTold, IsWhole, List, Matches, ObjectId, ObjectRow, ObjectTable}
use Rattle.vm_kernel.proofs.Common.{Option, Parts, PutsObject, SameMarks, ShadowRow, Some, Temp, Woken, Works, [], ap, arith, eqb_tells, false, inl, inr}
use Rattle.vm_kernel.proofs.Common.{is_woken, marks_of, named, next_object, next_region, not, object_at, one_case, ready_in, refl, shadow_at}
use Rattle.vm_kernel.proofs.Common.{some_is, subst, sym, true, waiting, ℕ, ◌+◌, ◌-◌, ◌<◌, ◌^◌, ◌∙◌, ◌≡◌, ◌⊎◌}
use Rattle.vm_kernel.proofs.controls.CopiesAnswered.{copied_put_declared}
use Rattle.vm_kernel.proofs.controls.DeclaredKinds.{declared_kind}
use Rattle.vm_kernel.proofs.controls.WordTaken.{works_flagged}
use Rattle.vm_kernel.proofs.memory.CoreChanges.{pages_known_so}
use Rattle.vm_kernel.proofs.memory.PageChanges.{fits_known}
use Rattle.vm_kernel.proofs.space.RegionEnds.{controls_put, if_some}
use Rattle.vm_kernel.proofs.space.StillThin.{keeps_same, thin_paged}
use Rattle.vm_kernel.specs.Caching.{IsToKeep}
use Rattle.vm_legal.specs.Cached.{is_cached}
use Rattle.vm_parts.specs.Changes.{one}
use Rattle.vm_state.proofs.Files.{files_put}
use Rattle.vm_state.proofs.Flagging.{but_flagged, kinds_flagged, referred_flagged, regions_flagged}
use Rattle.vm_state.proofs.KnownPages.{sizes_put}
use Rattle.vm_state.proofs.Told.{told_all, waits_told}
use Rattle.vm_state.specs.Pagers.{cached_in}
use Rattle.vm_state.specs.Stands.{HasFlags}
use Rattle.vm_state.specs.References.{references_to}
use Rattle.vm_state.proofs.Knowing.{known_put}
use Rattle.vm_kernel.specs.Sweeping.{LeavesLoser}
use mathlib.Core.Bool.{beq}
use Rattle.std.specs.Prelude.{IsSome, IfSome, None}
use Rattle.vm_base.specs.Listing.{Listed}
use Rattle.vm_abroad.proofs.Regions.{kind_cases}
use Rattle.vm_kernel.specs.Rooms.{Spends, leaving}
use Rattle.vm_terminate.proofs.Living.{same_put}
use Rattle.vm_legal.proofs.Numbering.{named_regions}
use Rattle.vm_kernel.proofs.controls.DeclaredReferences.{declared_refer}
use Rattle.vm_kernel.proofs.space.LosersMerge.{leaves_none}

-- a row with this flag, and so many references
abbrev pub flagged : ObjectRow → Bool → ℕ → ObjectRow
flagged known cache left = record known { cache = cache; references = left }

-- a declared object has such a row now
pub record FlagPut (header : Header) (k : Parts) (object : ObjectId) (known : ObjectRow) (cache : Bool) (left : ℕ) (objects : ObjectTable) : Type 0 where
  pub declared : object.0 < named header
  pub put : PutsObject object.0 (Some (flagged known cache left)) k.memory.objects objects
  pub marks : SameMarks k.memory.objects objects
  pub counts : left + one known.cache ≡ known.references + one cache

agree : (a b : Bool) → beq a b ≡ true → a ≡ b
agree true true same = refl
agree true false same = absurd (let bad : false ≡ true = same in cc)
agree false true same = absurd (let bad : false ≡ true = same in cc)
agree false false same = refl

-- where nothing changes, the kernel stands for the history as it is
pub kept : {header : Header} {h : ℕ} {k : Parts} {ids : Ids} {who : Woken} {object : ObjectId} {cache : Bool} {past : List Event}
    → (to : IsToKeep header h k ids who object cache past) → (known : ObjectRow) → object_at k.memory.objects object.0 ≡ Some known
    → (known.kind ≡ Temp) ⊎ (beq known.cache cache ≡ true) → Works header h k ids who past
kept {header = header} {h = h} {object = object} {cache = cache} {past = past} to known found why = works_flagged to.works same
  where
    known_is : known ≡ to.known
    known_is = some_is known to.known (sym found ∙ to.found)

    own : object.0 < named header → is_cached h object.0 past ≡ to.flags object.0
    own declared = elim why [
      | inl temporary ↦ absurd (declared_kind header object.0 to.works.core.setting.ranged declared
          (sym ((to.works.core.objects.kinds.kinds object.0 to.known to.found).declared declared).kind ∙ (sym (ap (λ z. z.kind) known_is) ∙ temporary)))
      | inr unchanged ↦ to.said declared ∙ (sym (sym (ap (λ z. z.cache) known_is) ∙ agree known.cache cache unchanged)
          ∙ (sym (ap cached_in to.found) ∙ sym (to.works.core.flags object.0 declared)))
    ]

    same : (o : ℕ) → o < named header → is_cached h o past ≡ to.flags o
    same o less = elim (eqb_tells object.0 o) [
      | inl this ↦ subst (λ (z : ℕ). is_cached h z past ≡ to.flags z) this.1 (own (subst (λ (z : ℕ). z < named header) (sym this.1) less))
      | inr apart ↦ sym (to.others o apart.1)
    ]

module _ {header : Header} {h : ℕ} {k : Parts} {ids : Ids} {who : Woken} {object : ObjectId} {cache : Bool} {past : List Event} {left : ℕ}
    {objects : ObjectTable} (to : IsToKeep header h k ids who object cache past) (is : FlagPut header k object to.known cache left objects) where
  abbrev now : ObjectRow
  now = flagged to.known cache left

  -- so many references are left
  left_is : left ≡ references_to k.chains (next_region header past) (next_object header past) object.0 + one cache
  left_is =
      let count = to.works.core.objects.regions.counts object.0 to.known to.found in
      let moved = is.counts in
      omega (arith, count, moved)

  flags : HasFlags (named header) objects (λ o. is_cached h o past)
  flags o less = elim (eqb_tells object.0 o) [
    | inl this ↦
        subst (λ (z : ℕ). is_cached h z past ≡ cached_in (object_at objects z)) this.1
        (to.said is.declared ∙ sym (ap cached_in (known_put object.0 now k.memory.objects objects is.put)))
    | inr apart ↦ elim (one_case object.0 o (Some now) (object_at k.memory.objects o) (object_at objects o) (is.put.at o)) [
      | inl this ↦ absurd (apart.1 this.0)
      | inr other ↦ sym (to.others o apart.1) ∙ (to.works.core.flags o less ∙ sym (ap cached_in other.1))
    ]
  ]

  told : (o : ℕ) → IsPagerTold k.memory.objects o → IsPagerTold objects o
  told o was = elim (one_case object.0 o (Some now) (object_at k.memory.objects o) (object_at objects o) (is.put.at o)) [
    | inl this ↦
        let same : to.known ≡ was.row = some_is to.known was.row
        (sym (subst (λ (z : ℕ). object_at k.memory.objects z ≡ Some to.known) this.0 to.found) ∙ was.found) in
        record { row = now; found = this.1; sent = ap (λ z. z.state) same ∙ was.sent }
    | inr other ↦ record { row = was.row; found = other.1 ∙ was.found; sent = was.sent }
  ]

  ready : (o : ℕ) → ready_in (object_at objects o) ≡ ready_in (object_at k.memory.objects o)
  ready o = elim (one_case object.0 o (Some now) (object_at k.memory.objects o) (object_at objects o) (is.put.at o)) [
    | inl this ↦ ap ready_in this.1 ∙ sym (ap ready_in (subst (λ (z : ℕ). object_at k.memory.objects z ≡ Some to.known) this.0 to.found))
    | inr other ↦ ap ready_in other.1
  ]

  matches : Matches header h (record k { memory = record k.memory { objects = objects } }) ids [] past
  matches =
      let core = to.works.core in
      record {
        core = record {
          setting = core.setting;
          calm = core.calm;
          fits = fits_known to.found is.put refl core.fits;
          spaces = core.spaces;
          objects = record {
            regions =
                regions_flagged object.0 left cache to.known k.chains k.memory.objects objects ids _ _ _ _ _ to.found is.put left_is
                (core.spaces.homes.1.bare object.0 is.declared) core.objects.regions;
            kinds = kinds_flagged header object.0 left cache to.known k.memory.objects objects k.chains is.declared to.found is.put is.marks
                (λ tame some. to.live) core.objects.kinds;
            files = files_put header h object.0 to.known now k.memory.objects objects _ to.found is.put core.objects.files;
            sizes = sizes_put (named header) object.0 to.known now k.memory.objects objects _ to.found refl is.put core.objects.sizes;
            undelayed = core.objects.undelayed;
          };
          copied = copied_put_declared past object.0 to.known now objects is.declared core.spaces.homes.1 core.objects to.found refl is.put core.copied;
          controls = controls_put object.0 to.known now k.memory.objects objects _ _ _ to.found is.put refl refl refl core.controls;
          flags = flags;
          pages = pages_known_so is.marks core.pages;
        };
        settled = to.works.settled;
        replied = to.works.replied;
      }

  waits : HasWaits header h (record k { memory = record k.memory { objects = objects } }) who past
  waits =
      waits_told k.maps k.chains k.memory.resident k.memory.objects objects k.waits.rows (is_woken who) (λ t. waiting t past) to.works.waits
      (told_all k.maps k.chains k.memory.objects objects told) (λ o p row there was. ready o ∙ was)

  -- something else refers to the object, or the flag does
  pub stays : 0 < left → Works header h (record k { memory = record k.memory { objects = objects } }) ids who past
  stays some = record {
    matches = matches;
    used = to.works.used;
    referred = referred_flagged object.0 left cache to.known k.chains k.memory.objects objects k.memory.resident to.found is.put some to.works.referred;
    thin = thin_paged object.0 now k.chains k.chains k.memory.objects objects (keeps_same k.chains k.chains (λ o. refl))
        (let numbered = ((to.works.core.objects.kinds.kinds object.0 to.known to.found).declared is.declared).number in λ none. omega (arith, numbered, none))
        is.put to.works.thin;
    waits = waits;
    order = to.works.order;
  }

  -- nothing does
  pub ends : left ≡ 0 → EndsObject header h who (record k { memory = record k.memory { objects = objects } }) ids [] object.0 past
  ends none = record {
    runs = record { matches = matches; waits = waits; order = to.works.order };
    used = to.works.used;
    row = now;
    known = known_put object.0 now k.memory.objects objects is.put;
    none = none;
    referred = but_flagged object.0 left cache to.known k.chains k.memory.objects objects k.memory.resident to.found is.put to.works.referred;
  }

-- what the calls leave of the row

-- a row is put twice
pub puts_both : (o : ℕ) (x y : Option ObjectRow) (os mid os2 : ObjectTable) → PutsObject o x os mid → PutsObject o y mid os2 → PutsObject o y os os2
puts_both o x y os mid os2 one two = record {
  at = λ z. two.at z ∙ elim (eqb_tells o z) [
    | inl this ↦ rw this.0 refl
    | inr apart ↦ rw apart.0 (one.at z ∙ rw apart.0 refl)
  ];
}

pub marks_both : (os mid os2 : ObjectTable) → SameMarks os mid → SameMarks mid os2 → SameMarks os os2
marks_both os mid os2 one two = record { at = λ o p. two.at o p ∙ one.at o p }

differ : (a b : Bool) → beq a b ≡ false → a ≡ not b
differ true true apart = absurd (let bad : true ≡ false = apart in cc)
differ true false apart = refl
differ false true apart = refl
differ false false apart = absurd (let bad : true ≡ false = apart in cc)

-- a control's own object, whose flag is to be another
pub record Moves {header : Header} {h : ℕ} {k : Parts} {ids : Ids} {who : Woken} {object : ObjectId} {cache : Bool} {past : List Event}
    (to : IsToKeep header h k ids who object cache past) (mid : ObjectTable) : Type 0 where
  pub declared : object.0 < named header
  pub differs : to.known.cache ≡ not cache
  pub set : PutsObject object.0 (Some (record to.known { cache = cache })) k.memory.objects mid
  pub marks : SameMarks k.memory.objects mid

pub moves : {header : Header} {h : ℕ} {k : Parts} {ids : Ids} {who : Woken} {object : ObjectId} {cache : Bool} {past : List Event}
    (to : IsToKeep header h k ids who object cache past) (known : ObjectRow) (mid : ObjectTable) → object_at k.memory.objects object.0 ≡ Some known
    → (known.kind ≡ Temp → ⊥) → beq known.cache cache ≡ false
    → IfSome (object_at k.memory.objects object.0) (λ row. PutsObject object.0 (Some (record row { cache = cache })) k.memory.objects mid)
    → SameMarks k.memory.objects mid → Moves to mid
moves {header = header} {k = k} {object = object} {cache = cache} to known mid found other apart set marks = record {
  declared = elim (kind_cases header object.0) [
    | inl declared ↦ declared
    | inr temporary ↦
        absurd (other (ap (λ z. z.kind) same ∙ ((to.works.core.objects.kinds.kinds object.0 to.known to.found).temporary temporary).kind))
  ];
  differs = differ to.known.cache cache (subst (λ (z : ObjectRow). beq z.cache cache ≡ false) same apart);
  set = if_some (object_at k.memory.objects object.0) (λ row. PutsObject object.0 (Some (record row { cache = cache })) k.memory.objects mid) to.known to.found
      set;
  marks = marks;
}
  where
    same : known ≡ to.known
    same = some_is known to.known (sym found ∙ to.found)

module _ {header : Header} {h : ℕ} {k : Parts} {ids : Ids} {who : Woken} {object : ObjectId} {cache : Bool} {past : List Event} {mid : ObjectTable}
    (to : IsToKeep header h k ids who object cache past) (m : Moves to mid) where
  -- the row between the calls
  between : object_at mid object.0 ≡ Some (record to.known { cache = cache })
  between = known_put object.0 (record to.known { cache = cache }) k.memory.objects mid m.set

  -- a declared object counts what is over it, and its flag
  counted : to.known.references
      ≡ references_to k.chains (next_region header past) (next_object header past) object.0 + one to.known.cache
  counted = to.works.core.objects.regions.counts object.0 to.known to.found

  few : to.known.references < 2 ^ 32 - 1
  few =
      let more = named_regions header past in
      let declared = m.declared in
      declared_refer header past k.chains k.memory.objects ids (next_region header past) (next_object header past) (marks_of header past) object.0 to.known
      to.works.core.objects.regions to.works.core.objects.kinds to.works.core.spaces.homes.1 declared (omega (arith, declared, more)) to.found

  pub may_refer : IsSome (object_at mid object.0) × IfSome (object_at mid object.0) (λ row. row.references < 2 ^ 32 - 1)
  may_refer = subst (λ (z : Option ObjectRow). IsSome z × IfSome z (λ row. row.references < 2 ^ 32 - 1)) (sym between) (refl, few)

  pub may_unrefer : cache ≡ false → IsSome (object_at mid object.0) × IfSome (object_at mid object.0) (λ row. 0 < row.references)
  may_unrefer off =
      let held : to.known.cache ≡ true = m.differs ∙ ap not off in
      let one_more : one to.known.cache ≡ 1 = ap one held in
      subst (λ (z : Option ObjectRow). IsSome z × IfSome z (λ row. 0 < row.references)) (sym between) (refl, omega (arith, counted, one_more))

  pub flag_up : (objects : ObjectTable) → cache ≡ true
      → IfSome (object_at mid object.0) (λ row. PutsObject object.0 (Some (record row { references = row.references + 1 })) mid objects)
      → SameMarks mid objects → FlagPut header k object to.known cache (to.known.references + 1) objects
  flag_up objects on put marks =
      let was : one to.known.cache ≡ 0 = ap one (m.differs ∙ ap not on) in
      let now_one : one cache ≡ 1 = ap one on in
      record {
        declared = m.declared;
        put =
            puts_both object.0 (Some (record to.known { cache = cache })) _ k.memory.objects mid objects m.set
            (if_some (object_at mid object.0) (λ row. PutsObject object.0 (Some (record row { references = row.references + 1 })) mid objects)
            (record to.known { cache = cache }) between put);
        marks = marks_both k.memory.objects mid objects m.marks marks;
        counts = omega (arith, was, now_one);
      }

  pub flag_down : (left : ℕ) (objects : ObjectTable) → cache ≡ false → IfSome (object_at mid object.0) (λ row. left + 1 ≡ row.references)
      → IfSome (object_at mid object.0) (λ row. PutsObject object.0 (Some (record row { references = left })) mid objects)
      → SameMarks mid objects → FlagPut header k object to.known cache left objects
  flag_down left objects off less put marks =
      let was : one to.known.cache ≡ 1 = ap one (m.differs ∙ ap not off) in
      let now_none : one cache ≡ 0 = ap one off in
      let fewer = if_some (object_at mid object.0) (λ row. left + 1 ≡ row.references) (record to.known { cache = cache }) between less in
      record {
        declared = m.declared;
        put =
            puts_both object.0 (Some (record to.known { cache = cache })) _ k.memory.objects mid objects m.set
            (if_some (object_at mid object.0) (λ row. PutsObject object.0 (Some (record row { references = left })) mid objects)
            (record to.known { cache = cache }) between put);
        marks = marks_both k.memory.objects mid objects m.marks marks;
        counts = omega (arith, was, now_none, fewer);
      }

-- a flag costs nothing
pub flag_spends : {header : Header} {k : Parts} {object : ObjectId} {known : ObjectRow} {cache : Bool} {left : ℕ} {objects : ObjectTable} (ids : Ids)
    (log : Listed Event) → object_at k.memory.objects object.0 ≡ Some known → FlagPut header k object known cache left objects
    → objects.rows ≡ k.memory.objects.rows
    → Spends (leaving k ids) 0 (leaving (record k { memory = record k.memory { objects = objects } }) ids) k log
    (record k { memory = record k.memory { objects = objects } }) log
flag_spends {k = k} {object = object} {known = known} {cache = cache} {left = left} {objects = objects} ids log found is rows =
    let live = same_put k.memory.objects objects object.0 known (flagged known cache left) found is.put refl ids.next_object in
    record {
      told = omega (arith, live);
      room = omega (arith, live);
      rows = omega (arith, live);
      shadows = omega (arith, live);
      objects = omega (arith, live, rows);
      copies = omega arith;
    }

-- the object that nothing holds has ended
pub ended : {header : Header} {h : ℕ} {k new : Parts} {ids : Ids} {who : Woken} {object : ObjectId} {cache : Bool} {past now : List Event}
    {objects : ObjectTable}
    (to : IsToKeep header h k ids who object cache past) → FlagPut header k object to.known cache 0 objects → (left : Option ObjectId)
    → IsWhole header h who new ids [] now → LeavesLoser left (record k { memory = record k.memory { objects = objects } }) new
    → (shadow_at k.chains object.0 ≡ None → left ≡ None) → Works header h new ids who now
ended {header = header} {h = h} {k = k} {new = new} {ids = ids} {object = object} {cache = cache} {objects = objects} to is left whole loser bare = record {
  matches = whole.runs.matches;
  used = whole.used;
  referred = whole.referred;
  thin = leaves_none left (record k { memory = record k.memory { objects = objects } }) new loser (bare (unshadowed (shadow_at k.chains object.0) refl))
      (thin_paged object.0 (flagged to.known cache 0) k.chains k.chains k.memory.objects objects (keeps_same k.chains k.chains (λ o. refl))
      (let numbered = ((to.works.core.objects.kinds.kinds object.0 to.known to.found).declared is.declared).number in λ none. omega (arith, numbered, none))
      is.put to.works.thin);
  waits = whole.runs.waits;
  order = whole.runs.order;
}
  where
    unshadowed : (x : Option ShadowRow) → shadow_at k.chains object.0 ≡ x → x ≡ None
    unshadowed None none = refl
    unshadowed (Some row) found =
        let bad : false ≡ true = sym (to.works.core.spaces.homes.1.bare object.0 is.declared)
        ∙ ap (λ z. z.backed) (to.works.core.objects.regions.shadows object.0 row found) in
        absurd (cc)
