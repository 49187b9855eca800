-- An object that its pager has ended: its control has ended, nothing of it is here or asked, and nothing holds it but the entries that lead to it.
use Rattle.vm_legal.proofs.Unshared.{wild_named}
use Rattle.vm_kernel.proofs.Common.{AllReferred, Bool, Command, Elsewhere, Event, HasControls, HasFrames, HasPages, Header, Ids, List, None, ObjectId}
use Rattle.vm_kernel.proofs.Common.{ObjectRow, ObjectTable, Option, Outside, Parts, PutsObject, SameMarks, ShadowRow, Some, Up, [], ap, arith, eqb_tells}
use Rattle.vm_kernel.proofs.Common.{false, frames_held, frames_wired, host_id, if◌then◌else◌, inl, inr, is_control, is_ready, last_control, live_control}
use Rattle.vm_kernel.proofs.Common.{live_in, local, local_after, named, next_object, next_region, object_at, object_home, page_on, place_of}
use Rattle.vm_kernel.proofs.Common.{refl, reverse, row_at, shadow_at, slice_get, some_is, subst, sym, true, without_control, ℕ, ◌&&◌, ◌+◌, ◌-◌, ◌<◌, ◌==◌, ◌∙◌}
use Rattle.vm_kernel.proofs.Common.{◌∷◌, ◌≡◌}
use Rattle.vm_kernel.proofs.abroad.OwnEvents.{own_named}
use Rattle.vm_kernel.proofs.abroad.OwnHost.{own_host}
use Rattle.vm_kernel.proofs.controls.CopiesAnswered.{copied_put_declared}
use Rattle.vm_kernel.proofs.controls.FlagsKept.{flags_set}
use Rattle.vm_kernel.proofs.controls.PagesCancelled.{Clears}
use Rattle.vm_kernel.proofs.controls.PagesDropped.{alive_facts}
use Rattle.vm_kernel.proofs.memory.PageChanges.{fits_known}
use Rattle.vm_kernel.proofs.memory.PagesShown.{itself}
use Rattle.vm_kernel.proofs.memory.WhatIsKnown.{known_after, other_if}
use Rattle.vm_kernel.proofs.space.ObjectEnds.{controls_quiet, pages_quiet, quiet_row}
use Rattle.vm_kernel.proofs.space.RegionEnds.{controls_put}
use Rattle.vm_kernel.proofs.space.StillThin.{keeps_same, thin_paged}
use Rattle.vm_kernel.proofs.steps.EventsGrow.{Follows, suffices}
use Rattle.vm_kernel.specs.Matches.{Core, IsCalm, control_facts, memory_facts, space_facts}
use Rattle.vm_legal.specs.Destroyed.{IsDestroyed, destroy_taken, is_destroyed}
use Rattle.vm_legal.specs.Frames.{asked_pages}
use Rattle.vm_legal.specs.Licences.{Destroyed}
use Rattle.vm_merge.specs.Merges.{IsThin}
use Rattle.vm_model.specs.Local.{Ends as EndsControl}
use Rattle.vm_model.specs.declared.event.Event.TheVariants as event
use Rattle.vm_model.specs.declared.message.Message.TheVariants as message
use Rattle.vm_parts.specs.Changes.{one}
use Rattle.vm_state.proofs.Declared.{kinds_put}
use Rattle.vm_state.proofs.Changing.{regions_known}
use Rattle.vm_state.proofs.Files.{files_put}
use Rattle.vm_state.proofs.Knowing.{known_put}
use Rattle.vm_state.proofs.KnownPages.{sizes_put}
use Rattle.vm_state.proofs.Referred.{all_but, all_ended, but_known}
use Rattle.vm_state.specs.Places.{known_local}
use Rattle.vm_state.specs.References.{references_to}

-- a row is put where another was put
puts_over : (o : ℕ) (x y : Option ObjectRow) (os mid os2 : ObjectTable) → PutsObject o x os mid → PutsObject o y os os2 → PutsObject o y mid os2
puts_over o x y os mid os2 one two = record {
  at = λ z. elim (eqb_tells o z) [
    | inl this ↦ two.at z ∙ (ap (λ b. if b then y else object_at os z) this.0 ∙ sym (ap (λ b. if b then y else object_at mid z) this.0))
    | inr apart ↦ two.at z ∙ (ap (λ b. if b then y else object_at os z) apart.0
        ∙ (sym (one.at z ∙ ap (λ b. if b then x else object_at os z) apart.0) ∙ sym (ap (λ b. if b then y else object_at mid z) apart.0)))
  ];
}

-- the row of an object whose control has ended, and that stays no more without an entry
abbrev pub gone_row : ObjectRow → ℕ → ObjectRow
gone_row known left = record (quiet_row known) { cache = false; references = left }

-- the object's pages have gone, and its control is to end
pub record IsCleared (header : Header) (h : ℕ) (object : ObjectId) (k : Parts) (ids : Ids) (known : ObjectRow) (os : ObjectTable) (moment : List Event) : Type 0
  where
    pub count : ℕ
    pub clears : Clears header h object.0 k ids (space_facts header moment) (alive_facts h moment) (memory_facts header h moment) count
    pub asked : count ≡ asked_pages header h object.0 moment
    pub destroyed : IsDestroyed header h object.0 moment
    pub none : (p : ℕ) → row_at k.memory.resident object.0 p ≡ None
    pub away : (p : ℕ) → (page_on header h object.0 p moment).here ≡ false
    pub found : object_at k.memory.objects object.0 ≡ Some known
    pub live : known.live ≡ true
    pub quiet : PutsObject object.0 (Some (quiet_row known)) k.memory.objects os

-- it stays no more without an entry, and has so many references left
pub record IsLetGo (object : ObjectId) (k : Parts) (known : ObjectRow) (os2 : ObjectTable) (left : ℕ) : Type 0 where
  pub put : PutsObject object.0 (Some (gone_row known left)) k.memory.objects os2
  pub marks : SameMarks k.memory.objects os2
  pub less : left + one known.cache ≡ known.references

module _ {header : Header} {h : ℕ} {object : ObjectId} {k : Parts} {ids : Ids} {known : ObjectRow} {os : ObjectTable} {moment : List Event}
    (is : IsCleared header h object k ids known os moment) where
  abbrev o : ℕ
  o = object.0

  abbrev ending : Event
  ending = event.Sent (Up (host_id h) object) (message.Terminate known.control)

  declared : o < named header
  declared = wild_named header o is.destroyed.wild

  alive : live_control h o moment ≡ Some known.control
  alive = is.clears.core.controls.live o ∙ (ap live_in is.found ∙ ap (λ b. if b then Some known.control else None) is.live)

  -- the control of the object is the one that ends
  same_end : (o2 : ℕ) → (if o == o2 then (if is_control known.control (live_control h o2 moment) then EndsControl else Elsewhere) else Elsewhere)
      ≡ (if o == o2 then EndsControl else Elsewhere)
  same_end o2 = elim (eqb_tells o o2) [
    | inl this ↦
        let its : is_control known.control (live_control h o2 moment) ≡ true = ap (λ z. is_control known.control (live_control h z moment)) (sym this.1)
        ∙ (ap (is_control known.control) alive ∙ itself known.control) in
        ap (λ b. if o == o2 then (if b then EndsControl else Elsewhere) else Elsewhere) its
    | inr apart ↦ ap (λ b. if b then (if is_control known.control (live_control h o2 moment) then EndsControl else Elsewhere) else Elsewhere) apart.0
        ∙ sym (ap (λ b. if b then EndsControl else Elsewhere) apart.0)
  ]

  -- its frames that were asked for are given back
  counted : HasFrames (slice_get (reverse header.frames.items) h) k.memory.frames (frames_held header h (ending ∷ moment)) (frames_wired h (ending ∷ moment))
  counted =
      let owned : is_destroyed h o (destroy_taken moment) ≡ true = ap (is_destroyed h o) is.destroyed.taken
      ∙ (ap (λ b. b && o == o) (own_host h) ∙ itself o) in
      let some = is.clears.counts in
      let asked = is.asked in
      rw (own_host h, owned) (subst (λ (n : ℕ). HasFrames (slice_get (reverse header.frames.items) h) k.memory.frames n (frames_wired h moment))
      (let fewer : is.clears.held ≡ frames_held header h moment - asked_pages header h o moment = omega (arith, some, asked) in fewer)
      is.clears.core.pages.counted)

  pub ending_follows : (outside : Outside) (doing : Command) → Follows header h outside doing ending moment
  ending_follows outside doing = record {
    consequence = tt;
    cause = record { live = alive; away = is.away; why = Destroyed is.destroyed };
    own_bytes = tt;
    frames = suffices header h k.memory.frames (ending ∷ moment) counted;
    inner = tt;
    said = refl;
    own = own_named h;
    creates = tt;
  }

  -- nothing stands under the object
  unshadowed : shadow_at k.chains o ≡ None
  unshadowed = by (shadow_at k.chains o) refl
    where
      by : (x : Option ShadowRow) → shadow_at k.chains o ≡ x → x ≡ None
      by None none = refl
      by (Some row) found =
          let bad : false ≡ true = sym (is.clears.core.spaces.homes.1.bare o declared)
          ∙ ap (λ z. z.backed) (is.clears.core.objects.regions.shadows o row found) in
          absurd (cc)

module _ {header : Header} {h : ℕ} {object : ObjectId} {k : Parts} {ids : Ids} {known : ObjectRow} {os os2 : ObjectTable} {left : ℕ} {moment : List Event}
    (is : IsCleared header h object k ids known os moment) (gone : IsLetGo object k known os2 left) where
  abbrev end : Parts
  end = record k { memory = record k.memory { objects = os2 } }

  shown : HasPages k.memory.frames k.memory.resident os2 (λ o2 p. known_local header o2 p (local header h (place_of o2 p) ((ending is) ∷ moment)))
  shown =
      let quiet = pages_quiet header.size known.control object.0 k.memory.frames k.memory.resident k.memory.objects os2 is.clears.seen
      (λ o2. live_control h o2 moment) is.clears.core.pages.shown (alive is) is.none gone.marks in
      record {
        shown = λ o2 p.
            let was = local header h (place_of o2 p) moment in
            rw (own_host h)
            (known_after header o2 p header.size
            (if object.0 == o2 then (if is_control known.control (live_control h o2 moment) then EndsControl else Elsewhere) else Elsewhere) was
            (other_if (object.0 == o2) (if is_control known.control (live_control h o2 moment) then EndsControl else Elsewhere)
            (other_if (is_control known.control (live_control h o2 moment)) EndsControl tt))
            ∙ (ap (λ e. local_after header.size e (known_local header o2 p was)) ((same_end is) o2)
            ∙ (sym (is.clears.same o2 p)
            ∙ (sym (ap (λ e. local_after header.size e (is.clears.seen o2 p)) ((same_end is) o2)) ∙ quiet.shown o2 p))));
      }

  controls : HasControls (named header) h os2 (λ o2. last_control h o2 ((ending is) ∷ moment)) (λ o2. live_control h o2 ((ending is) ∷ moment))
      (λ o2. is_ready h o2 ((ending is) ∷ moment)) (λ o2. object_home o2 moment)
  controls =
      rw (own_host h) (controls_put object.0 (quiet_row known) (gone_row known left) os os2 (λ o2. last_control h o2 moment)
      (λ o2. if object.0 == o2 then without_control known.control (live_control h o2 moment) else live_control h o2 moment)
      (λ o2. is_ready h o2 moment) (known_put object.0 (quiet_row known) k.memory.objects os is.quiet)
      (puts_over object.0 (Some (quiet_row known)) (Some (gone_row known left)) k.memory.objects os os2 is.quiet gone.put) refl refl refl
      (controls_quiet known.control object.0 known k.memory.objects os (λ o2. last_control h o2 moment)
      (λ o2. live_control h o2 moment) (λ o2. is_ready h o2 moment) is.clears.core.controls is.found (alive is) is.quiet))

  calm : IsCalm (named header) (λ o2. live_control h o2 ((ending is) ∷ moment)) (λ o2. is_destroyed h o2 (destroy_taken ((ending is) ∷ moment)))
  calm o2 ends = elim (eqb_tells object.0 o2) [
    | inl this ↦ (
      subst (λ (z : ℕ). z < named header) this.1 (declared is),
      rw (own_host h, this.0) (subst (λ (z : ℕ). without_control known.control (live_control h z moment) ≡ None) this.1
          (ap (without_control known.control) (alive is) ∙ ap (λ (b : Bool). if b then None else Some known.control) (itself known.control))),
    )
    | inr apart ↦ absurd (let bad : false ≡ true = sym (ap (is_destroyed h o2) is.destroyed.taken
        ∙ (ap (λ b. b && object.0 == o2) (own_host h) ∙ apart.0)) ∙ ends in cc)
  ]

  -- what the tables say of the object counts its references
  counts : left ≡ references_to k.chains (next_region header moment) (next_object header moment) object.0 + 0
  counts = let all = is.clears.core.objects.regions.counts object.0 known is.found in let less = gone.less in omega (arith, all, less)

  pub core_gone : Core header h end ids [] (space_facts header ((ending is) ∷ moment)) (control_facts h ((ending is) ∷ moment))
      (memory_facts header h ((ending is) ∷ moment))
  core_gone =
      let core = is.clears.core in
      let kind = (core.objects.kinds.kinds object.0 known is.found) in
      let its = kind.declared (declared is) in
      record {
        setting = core.setting;
        calm = calm;
        fits = fits_known is.found gone.put refl core.fits;
        spaces = core.spaces;
        objects = record {
          regions = regions_known object.0 known (gone_row known left) k.chains k.memory.objects os2 ids _ _ _ _ _ is.found gone.put refl counts
              (λ some none. core.spaces.homes.1.bare object.0 (declared is)) core.objects.regions;
          kinds = kinds_put header object.0 (gone_row known left) k.memory.objects os2 k.chains gone.put gone.marks (record {
            lives = refl;
            temporary = λ least. absurd (omega (arith, least, (declared is)));
            declared = λ less. record {
              kind = its.kind;
              pages = its.pages;
              told = λ tame. absurd (let bad : false ≡ true = sym tame ∙ is.destroyed.wild in cc);
              number = its.number;
            };
          }) core.objects.kinds;
          files = files_put header h object.0 known (gone_row known left) k.memory.objects os2 _ is.found gone.put core.objects.files;
          sizes = sizes_put (named header) object.0 known (gone_row known left) k.memory.objects os2 _ is.found refl gone.put core.objects.sizes;
          undelayed = core.objects.undelayed;
        };
        copied =
            copied_put_declared moment object.0 known (gone_row known left) os2 (declared is) core.spaces.homes.1 core.objects is.found refl gone.put
            core.copied;
        controls = controls;
        flags = rw (own_host h) (flags_set object.0 (gone_row known left) false gone.put refl core.flags);
        pages = record { shown = shown; washed = core.pages.washed; counted = counted is };
      }

  pub referred_gone : AllReferred k.chains k.memory.objects k.memory.resident → AllReferred k.chains os2 k.memory.resident
  referred_gone all =
      all_ended object.0 k.chains os2 k.memory.resident
      (but_known object.0 (gone_row known left) k.chains k.memory.objects os2 k.memory.resident gone.put
      (λ p row there. absurd (let bad : None ≡ Some row = sym (is.none p) ∙ there in cc)) (all_but object.0 k.chains k.memory.objects k.memory.resident all))
      (λ row found. ap (λ z. z.live) (some_is row (gone_row known left) (sym found ∙ known_put object.0 (gone_row known left) k.memory.objects os2 gone.put)))
      is.none (unshadowed is)

  pub thin_gone : IsThin k.copies k.chains k.memory.objects → IsThin k.copies k.chains os2
  thin_gone thin =
      thin_paged object.0 (gone_row known left) k.chains k.chains k.memory.objects os2 (keeps_same k.chains k.chains (λ x. refl))
      (let numbered = ((is.clears.core.objects.kinds.kinds object.0 known is.found).declared (declared is)).number in λ none. omega (arith, numbered, none))
      gone.put thin
