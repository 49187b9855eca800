-- The parts of a host fit each other still, once a page or one of them has changed.
use Rattle.std.proofs.Common.{◌≡◌, ℕ, ◌<◌, ◌==◌, Bool, true, false, List, length, refl, ap, sym, ◌∙◌, subst, Some, None, Option, inl, inr, length-set}
use Rattle.std.specs.Prelude.{if◌then◌else◌, ◌⊎◌, is_some}
use Rattle.vm_base.specs.declared.ids.FrameNo.{FrameNo}
use Rattle.vm_base.specs.declared.ids.PageKey.{PageKey}
use Rattle.vm_frames.specs.Frames.{FrameTable, Releases, frame_count, is_claimed, page_in}
use Rattle.vm_frames.proofs.Spares.{mark_there}
use Rattle.vm_objects.specs.Objects.{ObjectTable, PutsObject, object_at}
use Rattle.vm_objects.specs.declared.row.ObjectRow.{ObjectRow}
use Rattle.vm_queues.specs.Queues.{KeepsPages, Queues, is_queued}
use Rattle.vm_resident.specs.Resident.{ResidentTable, owner_among, owner_of, page_key, row_among, row_at}
use Rattle.vm_resident.specs.declared.page_row.PageRow.{PageRow}
use Rattle.vm_parts.specs.Changes.{Changes, IsIn, is_here, led}
use Rattle.vm_parts.specs.Fits.{Fit, object_pages, pages_of_row}
use Rattle.vm_parts.specs.declared.parts.HostParts.{HostParts}
use Rattle.vm_parts.proofs.Rows.{IsOther, IsPut, one_case, row_cases, set_cases, some_is}

-- a row in the frame
in_frame : (frame : FrameNo) (now : Option PageRow) (row : PageRow) → IsIn frame now → now ≡ Some row → row.frame.0 ≡ frame.0
in_frame frame now row is same = ap (λ z. z.0) (subst (λ (z : Option PageRow). IsIn frame z) same is)

-- a frame that a page had leads to no other page
led_apart : (key : PageKey) (was : Option PageRow) (o p : ℕ) → (key.object.0 ≡ o → key.page.0 ≡ p → ⊥) → led key was ≡ Some (page_key o p) → ⊥
led_apart key None o p apart is = let bad : None ≡ Some (page_key o p) = is in cc
led_apart key (Some row) o p apart is =
    let same : key ≡ page_key o p = some_is key (page_key o p) is in apart (ap (λ z. z.object.0) same) (ap (λ z. z.page.0) same)

led_none : (key : PageKey) (now : Option PageRow) → led key now ≡ None → now ≡ None
led_none key None none = refl
led_none key (Some row) none = absurd (let bad : Some key ≡ None = none in cc)

unheld_none : (now : Option PageRow) (held : Bool) → (is_some now ≡ true → held ≡ true) → held ≡ false → now ≡ None
unheld_none None held kept none = refl
unheld_none (Some row) held kept none = absurd (let bad : true ≡ false = sym (kept refl) ∙ none in cc)

-- the frame of another page is another
pub frame_apart : (key : PageKey) (frame : FrameNo) (was now : Option PageRow) (held : Bool) (bytes : List ℕ) (lists : Queues) (old new : HostParts) → Fit old
    → Changes key frame was now held bytes lists old new
    → (o p : ℕ) (row : PageRow) → (key.object.0 ≡ o → key.page.0 ≡ p → ⊥) → row_at old.resident o p ≡ Some row → frame.0 ≡ row.frame.0 → ⊥
frame_apart key frame was now held bytes lists old new fit c o p row apart found same =
    led_apart key was o p apart (sym c.owned ∙ (ap (owner_of old.resident) same ∙ fit.owned.at o p row found))

-- a page and its frame have changed
pub fit_changed : (key : PageKey) (frame : FrameNo) (was now : Option PageRow) (held : Bool) (bytes : List ℕ) (lists : Queues) (old new : HostParts) → Fit old
    → Changes key frame was now held bytes lists old new
    → (is_some now ≡ true → held ≡ true) → (is_some now ≡ true → key.page.0 < object_pages old.objects key.object.0) → length bytes ≡ old.buffers.size
    → lists.frames ≡ old.queues.frames
    → new.objects ≡ old.objects → new.buffers ≡ old.buffers → Fit new
fit_changed key frame was now held bytes lists old new fit c kept inside whole frames objects buffers =
    record {
      owned = record {
        at = λ o p r is. elim (cases o p) [
          | inl put ↦
              let its : led key now ≡ Some key = ap (led key) (sym put.is ∙ is) in
              ap (owner_of new.resident) (mine o p r put is)
              ∙ (owner_here ∙ (its ∙ ap Some (ap (λ z. page_key z key.page.0) put.object ∙ ap (page_key o) put.page)))
          | inr that ↦ elim (one_case frame.0 r.frame.0 (led key now) (owner_of old.resident r.frame.0) (owner_of new.resident r.frame.0)
              (c.owner.at r.frame.0)) [
                | inl same ↦ absurd (apart o p r that is same.0)
                | inr other ↦ other.1 ∙ fit.owned.at o p r (sym that.is ∙ is)
              ]
        ];
      };
      held = λ o p r is. elim (one_case frame.0 r.frame.0 held (is_claimed old.frames r.frame.0) (is_claimed new.frames r.frame.0) (c.claim.at r.frame.0)) [
        | inl same ↦ elim (cases o p) [
          | inl put ↦ same.1 ∙ kept (ap is_some (sym put.is ∙ is))
          | inr that ↦ absurd (apart o p r that is same.0)
        ]
        | inr other ↦ elim (cases o p) [
          | inl put ↦ absurd (other.0 (sym (mine o p r put is)))
          | inr that ↦ other.1 ∙ fit.held o p r (sym that.is ∙ is)
        ]
      ];
      listed =
          λ o p r is. elim (one_case frame.0 r.frame.0 (is_here now) (is_queued old.queues r.frame.0) (is_queued new.queues r.frame.0) (c.lists_are r.frame.0)) [
            | inl same ↦ elim (cases o p) [
              | inl put ↦ same.1 ∙ ap is_here (sym put.is ∙ is)
              | inr that ↦ absurd (apart o p r that is same.0)
            ]
            | inr other ↦ elim (cases o p) [
              | inl put ↦ absurd (other.0 (sym (mine o p r put is)))
              | inr that ↦ other.1 ∙ fit.listed o p r (sym that.is ∙ is)
            ]
          ];
      unlisted = λ g none. elim (one_case frame.0 g (led key now) (owner_of old.resident g) (owner_of new.resident g) (c.owner.at g)) [
        | inl same ↦ elim (one_case frame.0 g (is_here now) (is_queued old.queues g) (is_queued new.queues g) (c.lists_are g)) [
          | inl also ↦ also.1 ∙ ap is_here (led_none key now (sym same.1 ∙ none))
          | inr other ↦ absurd (other.0 same.0)
        ]
        | inr that ↦ elim (one_case frame.0 g (is_here now) (is_queued old.queues g) (is_queued new.queues g) (c.lists_are g)) [
          | inl same ↦ absurd (that.0 same.0)
          | inr other ↦ other.1 ∙ fit.unlisted g (sym that.1 ∙ none)
        ]
      ];
      unowned = λ g free. elim (one_case frame.0 g held (is_claimed old.frames g) (is_claimed new.frames g) (c.claim.at g)) [
        | inl same ↦ sym (ap (owner_of new.resident) same.0) ∙ (owner_here ∙ ap (led key) (unheld_none now held kept (sym same.1 ∙ free)))
        | inr that ↦ elim (one_case frame.0 g (led key now) (owner_of old.resident g) (owner_of new.resident g) (c.owner.at g)) [
          | inl same ↦ absurd (that.0 same.0)
          | inr other ↦ other.1 ∙ fit.unowned g (sym that.1 ∙ free)
        ]
      ];
      inside = λ o p r is. subst (λ (z : ObjectTable). p < object_pages z o) (sym objects) (elim (cases o p) [
        | inl put ↦ subst (λ (z : ℕ). p < object_pages old.objects z) put.object (subst (λ (z : ℕ). z < object_pages old.objects key.object.0) put.page
            (inside (ap is_some (sym put.is ∙ is))))
        | inr that ↦ fit.inside o p r (sym that.is ∙ is)
      ]);
      all_sized = λ g below. elim (one_case frame.0 g bytes (page_in old.frames g) (page_in new.frames g) (c.page.at g)) [
        | inl same ↦ ap length same.1 ∙ (whole ∙ sym size)
        | inr other ↦ ap length other.1 ∙ (fit.all_sized g (subst (λ (z : ℕ). g < z) count below) ∙ sym size)
      ];
      count = ap (λ z. z.frames) c.queues ∙ (frames ∙ (fit.count ∙ sym count));
      pages = ap (λ z. length z.pages) c.frames ∙ (length-set old.frames.pages frame.0 bytes ∙ (fit.pages ∙ sym count));
    }
  where
    cases : (o p : ℕ) → IsPut key.object.0 key.page.0 now o p (row_at new.resident o p)
        ⊎ IsOther key.object.0 key.page.0 (row_at old.resident o p) o p (row_at new.resident o p)
    cases o p = row_cases key.object.0 key.page.0 now old.resident new.resident c.row o p

    mine : (o p : ℕ) (r : PageRow) → IsPut key.object.0 key.page.0 now o p (row_at new.resident o p) → row_at new.resident o p ≡ Some r → r.frame.0 ≡ frame.0
    mine o p r put is = in_frame frame now r c.now_in (sym put.is ∙ is)

    apart : (o p : ℕ) (r : PageRow) → IsOther key.object.0 key.page.0 (row_at old.resident o p) o p (row_at new.resident o p) → row_at new.resident o p ≡ Some r
        → frame.0 ≡ r.frame.0 → ⊥
    apart o p r that is same = frame_apart key frame was now held bytes lists old new fit c o p r that.apart (sym that.is ∙ is) same

    owner_here : owner_of new.resident frame.0 ≡ led key now
    owner_here =
        elim (one_case frame.0 frame.0 (led key now) (owner_of old.resident frame.0) (owner_of new.resident frame.0) (c.owner.at frame.0))
        [ inl same ↦ same.1 | inr other ↦ absurd (other.0 refl) ]

    count : frame_count new.frames ≡ frame_count old.frames
    count = ap (λ z. length z.claims) c.frames ∙ length-set old.frames.claims frame.0 held

    size : new.buffers.size ≡ old.buffers.size
    size = ap (λ z. z.size) buffers

-- a frame is claimed no more that no page has
pub fit_released : (parts : HostParts) (fs : FrameTable) (f : ℕ) → Fit parts → is_claimed parts.frames f ≡ true → owner_of parts.resident f ≡ None
    → Releases f parts.frames fs → Fit (record parts { frames = fs })
fit_released parts fs f fit mine none releases =
    record {
      owned = fit.owned;
      held = λ o p r is. elim (one_case f r.frame.0 false (is_claimed parts.frames r.frame.0) (is_claimed fs r.frame.0) (claims r.frame.0)) [
        | inl same ↦ absurd (let bad : None ≡ Some (page_key o p) = sym none ∙ (ap (owner_of parts.resident) same.0 ∙ fit.owned.at o p r is) in cc)
        | inr that ↦ that.1 ∙ fit.held o p r is
      ];
      listed = fit.listed;
      unlisted = fit.unlisted;
      unowned = λ g free. elim (one_case f g false (is_claimed parts.frames g) (is_claimed fs g) (claims g)) [
        | inl same ↦ sym (ap (owner_of parts.resident) same.0) ∙ none
        | inr that ↦ fit.unowned g (sym that.1 ∙ free)
      ];
      inside = fit.inside;
      all_sized = λ g below. ap (λ z. length (page_in z g)) releases.is ∙ fit.all_sized g (subst (λ (z : ℕ). g < z) count below);
      count = fit.count ∙ sym count;
      pages = ap (λ z. length z.pages) releases.is ∙ (fit.pages ∙ sym count);
    }
  where
    claims : (g : ℕ) → is_claimed fs g ≡ (if f == g then false else is_claimed parts.frames g)
    claims g = ap (λ z. is_claimed z g) releases.is ∙ set_cases parts.frames.claims f false false (mark_there parts.frames.claims f mine) g

    count : frame_count fs ≡ frame_count parts.frames
    count = ap frame_count releases.is ∙ length-set parts.frames.claims f false

-- the lists hold the same pages
pub fit_touched : (parts : HostParts) (qs : Queues) → Fit parts → KeepsPages parts.queues qs → qs.frames ≡ parts.queues.frames
    → Fit (record parts { queues = qs })
fit_touched parts qs fit keeps count =
    record {
      owned = fit.owned;
      held = fit.held;
      listed = λ o p r is. keeps r.frame.0 ∙ fit.listed o p r is;
      unlisted = λ g none. keeps g ∙ fit.unlisted g none;
      unowned = fit.unowned;
      inside = fit.inside;
      all_sized = fit.all_sized;
      count = count ∙ fit.count;
      pages = fit.pages;
    }

-- the pages that are here are within their objects
pub fit_within : (parts : HostParts) (os : ObjectTable) → Fit parts → ((o p : ℕ) (row : PageRow) → row_at parts.resident o p ≡ Some row → p < object_pages os o)
    → Fit (record parts { objects = os })
fit_within parts os fit inside =
    record {
      owned = fit.owned;
      held = fit.held;
      listed = fit.listed;
      unlisted = fit.unlisted;
      unowned = fit.unowned;
      inside = inside;
      all_sized = fit.all_sized;
      count = fit.count;
      pages = fit.pages;
    }

-- each object has as many pages
pub fit_objects : (parts : HostParts) (os : ObjectTable) → Fit parts → ((o : ℕ) → object_pages os o ≡ object_pages parts.objects o)
    → Fit (record parts { objects = os })
fit_objects parts os fit same = fit_within parts os fit (λ o p r is. subst (λ (z : ℕ). p < z) (sym (same o)) (fit.inside o p r is))

-- an object's row has changed, but not its number of pages
pub same_pages : (os os2 : ObjectTable) (id : ℕ) (row row2 : ObjectRow) → object_at os id ≡ Some row → row2.pages ≡ row.pages
    → PutsObject id (Some row2) os os2 → (o : ℕ) → object_pages os2 o ≡ object_pages os o
same_pages os os2 id row row2 found same put o = elim (one_case id o (Some row2) (object_at os o) (object_at os2 o) (put.at o)) [
  | inl now ↦ ap pages_of_row now.1 ∙ (same ∙ sym (ap pages_of_row (sym (ap (object_at os) now.0) ∙ found)))
  | inr that ↦ ap pages_of_row that.1
]

-- there is more room
pub fit_reserved : (parts : HostParts) (rs : ResidentTable) → Fit parts → rs.rows ≡ parts.resident.rows → Fit (record parts { resident = rs })
fit_reserved parts rs fit same =
    record {
      owned = record { at = λ o p r is. owners r.frame.0 ∙ fit.owned.at o p r (rows o p ∙ is) };
      held = λ o p r is. fit.held o p r (rows o p ∙ is);
      listed = λ o p r is. fit.listed o p r (rows o p ∙ is);
      unlisted = λ f none. fit.unlisted f (sym (owners f) ∙ none);
      unowned = λ f free. owners f ∙ fit.unowned f free;
      inside = λ o p r is. fit.inside o p r (rows o p ∙ is);
      all_sized = fit.all_sized;
      count = fit.count;
      pages = fit.pages;
    }
  where
    rows : (o p : ℕ) → row_at parts.resident o p ≡ row_at rs o p
    rows o p = ap (row_among o p) (sym same)

    owners : (f : ℕ) → owner_of rs f ≡ owner_of parts.resident f
    owners f = ap (owner_among f) same

-- other buffers of that size are kept
pub fit_buffers : (parts : HostParts) (size count : ℕ) → Fit parts → size ≡ parts.buffers.size
    → Fit (record parts { buffers = record { size = size; count = count } })
fit_buffers parts size count fit same =
    record {
      owned = fit.owned;
      held = fit.held;
      listed = fit.listed;
      unlisted = fit.unlisted;
      unowned = fit.unowned;
      inside = fit.inside;
      all_sized = λ f below. fit.all_sized f below ∙ sym same;
      count = fit.count;
      pages = fit.pages;
    }
