-- The next control of a declared object begins, where none lives though something refers to the object.
use Rattle.vm_kernel.proofs.controls.DeclaredRegion.{BeginsAnew, controls_opened, ready_paged}
use Rattle.vm_kernel.proofs.Common.{Begins, Elsewhere, Event, FrameTable, HasControls, HasPages, Header, Ids, IsOfKind, IsPagerTold, List, None, ObjectId}
use Rattle.vm_kernel.proofs.Common.{ObjectRow, ObjectTable, Parts, PutsObject, ResidentTable, Rests, SameMarks, Some, Up, ap, arith, false, has_pager, host_id}
use Rattle.vm_kernel.proofs.Common.{if◌then◌else◌, inl, inr, is_ready, is_ready_state, is_woken, last_control, live_control, live_in, local, named, object_at}
use Rattle.vm_kernel.proofs.Common.{object_home, one_case, place_of, ready_in, refl, subst, sym, true, waiting, ℕ, ◌&&◌, ◌+◌, ◌-◌, ◌<◌, ◌==◌, ◌^◌, ◌∙◌, ◌∷◌}
use Rattle.vm_kernel.proofs.Common.{◌≡◌}
use Rattle.vm_kernel.proofs.abroad.OwnHost.{own_host}
use Rattle.vm_kernel.proofs.controls.FlagsKept.{flags_set, uncached_dead}
use Rattle.vm_kernel.proofs.controls.LockReplied.{replied_behind}
use Rattle.vm_kernel.proofs.controls.WordTaken.{calm_none}
use Rattle.vm_kernel.proofs.memory.CopiesKept.{copied_put}
use Rattle.vm_kernel.proofs.memory.PageChanges.{fits_known, objects_known}
use Rattle.vm_kernel.proofs.memory.PageReturned.{pages_created, unasked}
use Rattle.vm_kernel.proofs.memory.PagesShown.{pages_marked}
use Rattle.vm_kernel.proofs.memory.WhatIsKnown.{other_if, pages_known}
use Rattle.vm_kernel.proofs.space.StillThin.{keeps_same, thin_paged}
use Rattle.vm_legal.specs.Cached.{is_cached}
use Rattle.vm_legal.specs.Destroyed.{destroy_taken}
use Rattle.vm_model.specs.declared.event.Event.TheVariants as event
use Rattle.vm_model.specs.declared.message.Message.TheVariants as message
use Rattle.vm_objects.specs.declared.row.PagerState.{PagerState}
use Rattle.vm_objects.specs.declared.row.PagerState.TheVariants as state
use Rattle.vm_state.proofs.Bypassing.{waits_quiet}
use Rattle.vm_state.proofs.Passing.{quiet_if}
use Rattle.vm_state.proofs.Referred.{referred_controlled}
use Rattle.vm_state.proofs.Told.{told_all, waits_told}
use Rattle.vm_state.specs.Pagers.{cached_in, last_in}
use Rattle.vm_state.specs.Places.{known_local}
use Rattle.vm_state.specs.Stands.{HasFlags}
use Rattle.vm_supply.specs.declared.woken.Woken.TheVariants as woken

-- the object with a control of that number that lives
abbrev pub controlled : ℕ → PagerState → ObjectRow → ObjectRow
controlled control pager row = record row { control = control; live = true; state = pager }

-- that a pager is told of an object
abbrev pub beginning : ℕ → ObjectId → ℕ → ℕ → Event
beginning h object control size = event.Sent (Up (host_id h) object) (message.Init control size)

-- the pages show what they did, where a control begins of an object without one
pub pages_begun : (header : Header) (h : ℕ) (object : ObjectId) (control : ℕ) (past : List Event) (fs : FrameTable) (rs : ResidentTable) (os : ObjectTable)
    → HasPages fs rs os (λ o p. known_local header o p (local header h (place_of o p) past)) → live_control h object.0 past ≡ None
    → HasPages fs rs os (λ o p. known_local header o p (local header h (place_of o p) (beginning h object control header.size ∷ past)))
pages_begun header h object control past fs rs os shown dead =
    rw (own_host h)
    (pages_known header header.size (λ o p. if object.0 == o then Begins else Elsewhere) (λ o p. local header h (place_of o p) past)
    (λ o p. other_if (object.0 == o) Begins tt)
    (pages_created header.size fs rs os (λ o p. known_local header o p (local header h (place_of o p) past)) object.0 shown
    (λ q. unasked header h object.0 q past dead)))

-- where no control of an object lives it doesn't stay
pub uncached_row : (header : Header) (h : ℕ) (past : List Event) (k : Parts) (ids : Ids) (o : ℕ) (row : ObjectRow) → Rests header h k ids past
    → o < named header → object_at k.memory.objects o ≡ Some row → row.live ≡ false → row.cache ≡ false
uncached_row header h past k ids o row rests less found dead =
    let core = rests.matches.core in
    let none : live_control h o past ≡ None = core.controls.live o ∙ (ap live_in found ∙ ap (λ b. if b then Some row.control else None) dead) in
    sym (ap cached_in found) ∙ (sym (core.flags o less) ∙ uncached_dead h o past none)

-- the next control begins, and nothing else changes
pub record BeginsNext (object : ObjectId) (known : ObjectRow) (k k2 : Parts) : Type 0 where
  pub found : object_at k.memory.objects object.0 ≡ Some known
  pub dead : known.live ≡ false
  pub put : PutsObject object.0 (Some (controlled (known.control + 1) state.Sent known)) k.memory.objects k2.memory.objects
  pub marks : SameMarks k.memory.objects k2.memory.objects
  pub few : known.control + 1 < 2 ^ 32 - 1
  pub same : k2 ≡ record k { memory = record k.memory { objects = k2.memory.objects } }

pub begins_anew : (header : Header) (h : ℕ) (past : List Event) (k : Parts) (ids : Ids) (object : ObjectId) (known : ObjectRow) → Rests header h k ids past
    → object.0 < named header → object_at k.memory.objects object.0 ≡ Some known → known.live ≡ false → known.control + 1 < 2 ^ 32 - 1
    → BeginsAnew (object_at k.memory.objects object.0) (controlled (known.control + 1) state.Sent known)
begins_anew header h past k ids object known rests less found dead few =
    record {
      dead = ap live_in found ∙ ap (λ b. if b then Some known.control else None) dead;
      state = refl;
      control = ap (λ z. last_in z + 1) (sym found);
      number = few;
      uncached = uncached_row header h past k ids object.0 known rests less found dead;
    }

-- the kernel behind it
pub rests_begun : (header : Header) (h : ℕ) (object : ObjectId) (known : ObjectRow) (past : List Event) (k k2 : Parts) (ids : Ids) → Rests header h k ids past
    → object.0 < named header → 0 < known.references → BeginsNext object known k k2 → destroy_taken past ≡ None
    → Rests header h k2 ids (beginning h object (known.control + 1) header.size ∷ past)
rests_begun header h object known past k k2 ids rests less some next kept =
    subst (λ (z : Parts). Rests header h z ids now) (sym next.same) begun
  where
    o : ℕ
    o = object.0

    os : ObjectTable
    os = k2.memory.objects

    new : ObjectRow
    new = controlled (known.control + 1) state.Sent known

    begins : Event
    begins = beginning h object (known.control + 1) header.size

    now : List Event
    now = begins ∷ past

    anew : BeginsAnew (object_at k.memory.objects o) new
    anew = begins_anew header h past k ids object known rests less next.found next.dead next.few

    -- its pager had not been told of it
    untold : has_pager known.state ≡ false
    untold = sym (rests.matches.core.objects.kinds.kinds o known next.found).lives ∙ next.dead

    kind : IsOfKind header o new
    kind =
        let its = (rests.matches.core.objects.kinds.kinds o known next.found).declared less in
        record {
          lives = refl;
          temporary = λ least. absurd (omega (arith, least, less));
          declared = λ declared. record { kind = its.kind; pages = its.pages; told = λ tame referred. refl; number = omega arith };
        }

    controls : HasControls (named header) h os (λ x. last_control h x now) (λ x. live_control h x now) (λ x. is_ready h x now) (λ x. object_home x past)
    controls =
        rw (own_host h) (controls_opened header k.memory.objects os (λ x. last_control h x past) (λ x. live_control h x past) (λ x. is_ready h x past) o new
        rests.matches.core.controls less refl anew next.put)

    flags : HasFlags (named header) os (λ x. is_cached h x now)
    flags = rw (own_host h) (flags_set o new false next.put anew.uncached rests.matches.core.flags)

    told : (x : ℕ) → IsPagerTold k.memory.objects x → IsPagerTold os x
    told x was = elim (one_case o x (Some new) (object_at k.memory.objects x) (object_at os x) (next.put.at x)) [
      | inl this ↦ record { row = new; found = this.1; sent = refl }
      | inr other ↦ record { row = was.row; found = other.1 ∙ was.found; sent = was.sent }
    ]

    ready : (x : ℕ) → ready_in (object_at k.memory.objects x) ≡ true → ready_in (object_at os x) ≡ true
    ready x was = elim (one_case o x (Some new) (object_at k.memory.objects x) (object_at os x) (next.put.at x)) [
      | inl this ↦
          let its : is_ready_state known.state ≡ true = sym (ap ready_in (sym (ap (object_at k.memory.objects) this.0) ∙ next.found)) ∙ was in
          let bad : false ≡ true = sym untold ∙ ready_paged known.state its in
          absurd (cc)
      | inr other ↦ ap ready_in other.1 ∙ was
    ]

    begun : Rests header h (record k { memory = record k.memory { objects = os } }) ids now
    begun =
        let m = rests.matches in
        let core = m.core in
        record {
          matches = record {
            core = record {
              setting = core.setting;
              calm = calm_none h (named header) (λ x. live_control h x now) now kept;
              fits = fits_known next.found next.put refl core.fits;
              spaces = core.spaces;
              objects = objects_known next.found next.put next.marks refl refl refl kind core.objects;
              copied = copied_put o known new os next.found next.put refl (λ has. record { row = known; known = next.found; some = has }) core.copied;
              controls = controls;
              flags = flags;
              pages = record {
                shown = pages_marked k.memory.frames k.memory.resident k.memory.objects os (λ x p. known_local header x p (local header h (place_of x p) now))
                    (pages_begun header h object (known.control + 1) past k.memory.frames k.memory.resident k.memory.objects core.pages.shown
                    (core.controls.live o ∙ anew.dead)) next.marks;
                washed = core.pages.washed;
                counted = core.pages.counted;
              };
            };
            settled = record { none_owed = refl; shut = λ region. refl };
            replied = replied_behind tt m.replied;
          };
          used = rests.used;
          referred = referred_controlled o known new k.chains k.memory.objects os k.memory.resident next.found next.put refl (λ live. some) (λ live. refl) refl
              rests.referred;
          thin = thin_paged o new k.chains k.chains k.memory.objects os (keeps_same k.chains k.chains (λ x. refl)) (λ never. omega (arith, never)) next.put
              rests.thin;
          waits = waits_quiet header h begins past (λ place. quiet_if (h == h && o == place.object.0) Begins Elsewhere tt tt)
              (waits_told k.maps k.chains k.memory.resident k.memory.objects os k.waits.rows (is_woken woken.Nobody) (λ t. waiting t past) rests.waits
              (told_all k.maps k.chains k.memory.objects os told) (λ x p page there was. ready x was));
          order = rests.order;
          idle = rests.idle;
        }
