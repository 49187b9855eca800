-- The frame of the oldest return is free, once its pager took it.
use Rattle.vm_kernel.proofs.Common.{All, Bool, EachApart, Event, FrameNo, FrameTable, HasFrames, HasLaundry, HasPages, Header, Ids, IsLaundered, IsWashed}
use Rattle.vm_kernel.proofs.Common.{LaundryList, List, Local, ObjectId, ObjectTable, Option, PageNo, Parts, Releases, ResidentTable, Rests, Some, Up, [], ap}
use Rattle.vm_kernel.proofs.Common.{arith, eqb_tells, false, fit_released, frame_count, frames_held, frames_wired, get_or, host_id, inl, inr, is_claimed}
use Rattle.vm_kernel.proofs.Common.{is_skipped, length, length-set, local, mark_there, one_case, place_of, refl, returns_out, reverse, set, set_cases}
use Rattle.vm_kernel.proofs.Common.{slice_get, subst, suc, sym, true, zero, ℕ, ◌++◌, ◌+◌, ◌-◌, ◌<◌, ◌∙◌, ◌∷◌, ◌≡◌}
use Rattle.vm_model.specs.declared.event.Event.TheVariants as event
use Rattle.vm_model.specs.declared.message.Message.TheVariants as message
use Rattle.vm_state.specs.Places.{known_local}
use Rattle.vm_kernel.proofs.memory.CopiesKept.{copied_same}
use Rattle.vm_kernel.proofs.abroad.OwnHost.{own_host}
use Rattle.vm_kernel.proofs.controls.LockReplied.{replied_none}

-- no frame of the list is this one
list_apart : (list : List FrameNo) (f : ℕ) → is_skipped list f ≡ false → (i : ℕ) (d : FrameNo) → i < length list → (get_or list i d).0 ≡ f → ⊥
list_apart [] f none i d below same = omega arith
list_apart (g ∷ list) f none zero d below same = elim (eqb_tells g.0 f) [
  | inl is ↦ let bad : true ≡ false = rw is.0 at none in cc
  | inr apart ↦ apart.1 same
]
list_apart (g ∷ list) f none (suc i) d below same = elim (eqb_tells g.0 f) [
  | inl is ↦ let bad : true ≡ false = rw is.0 at none in cc
  | inr apart ↦ list_apart list f (rw apart.0 at none) i d (omega arith) same
]

count_same : (fs fs2 : FrameTable) (f : ℕ) → Releases f fs fs2 → frame_count fs2 ≡ frame_count fs
count_same fs fs2 f releases = ap frame_count releases.is ∙ length-set fs.claims f false

frames_less : (most : Option ℕ) (fs fs2 : FrameTable) (f held wired : ℕ) → HasFrames most fs held wired → Releases f fs fs2
    → HasFrames most fs2 (held - 1) wired
frames_less most fs fs2 f held wired has releases =
    let wires : fs2.wired ≡ fs.wired = ap (λ z. z.wired) releases.is in
    let count = count_same fs fs2 f releases in
    record {
      total = has.total ∙ ap Some (sym count);
      held = omega (arith, has.held, releases.count);
      wired = has.wired ∙ sym wires;
      fits = omega (arith, has.fits, releases.count);
    }

laundry_less : (fs fs2 : FrameTable) (rs : ResidentTable) (laundry laundry2 : LaundryList) (out : ℕ) (f : FrameNo) → HasLaundry fs rs laundry out
    → laundry.held ≡ f ∷ laundry2.held → laundry2.room ≡ laundry.room + 1
    → is_claimed fs f.0 ≡ true → Releases f.0 fs fs2 → HasLaundry fs2 rs laundry2 (out - 1)
laundry_less fs fs2 rs laundry laundry2 out f has held room claimed releases =
    let many : length laundry.held ≡ suc (length laundry2.held) = ap length held in
    record {
      count = omega (arith, has.count, many);
      room = omega (arith, has.room, many, room) ∙ sym (count_same fs fs2 f.0 releases);
      washed = λ i d below. still (get_or laundry2.held i d) (list_apart laundry2.held f.0 apart.0 i d below) (washed (suc i) d (omega arith));
      apart = apart.1;
    }
  where
    apart : EachApart (f ∷ laundry2.held)
    apart = subst EachApart held has.apart

    washed : All (IsWashed fs rs) (f ∷ laundry2.held)
    washed = subst (All (IsWashed fs rs)) held has.washed

    still : (g : FrameNo) → (g.0 ≡ f.0 → ⊥) → IsWashed fs rs g → IsWashed fs2 rs g
    still g other was =
        record {
          claimed =
              ap (λ z. is_claimed z g.0) releases.is
              ∙ elim (one_case f.0 g.0 false (is_claimed fs g.0) (get_or (set fs.claims f.0 false) g.0 false)
              (set_cases fs.claims f.0 false false (mark_there fs.claims f.0 claimed) g.0)) [
                | inl same ↦ absurd (other (sym same.0))
                | inr that ↦ that.1 ∙ was.claimed
              ];
          unowned = was.unowned;
        }

pages_same : (fs fs2 : FrameTable) (rs : ResidentTable) (os : ObjectTable) (local_at : ℕ → ℕ → Local) (f : ℕ) → HasPages fs rs os local_at → Releases f fs fs2
    → HasPages fs2 rs os local_at
pages_same fs fs2 rs os local_at f has releases = subst (λ (z : FrameTable). HasPages z rs os local_at) (sym releases.is) (record { shown = has.shown })

-- the frame that is held longest
pub washed_first : (fs : FrameTable) (rs : ResidentTable) (laundry : LaundryList) (out : ℕ) (f : FrameNo) (more : List FrameNo) → HasLaundry fs rs laundry out
    → laundry.held ≡ f ∷ more → IsWashed fs rs f
washed_first fs rs laundry out f more has held = (subst (All (IsWashed fs rs)) held has.washed) 0 f (omega arith)

-- its pager took the return
rests_taken : (header : Header) (h : ℕ) (k : Parts) (ids : Ids) (past : List Event) (object : ObjectId) (control : ℕ) (page : PageNo) (dirty : Bool)
    (bytes : List ℕ) (f : FrameNo) (fs : FrameTable) (laundry : LaundryList)
    → Rests header h k ids past → k.laundry.held ≡ f ∷ laundry.held → laundry.room ≡ k.laundry.room + 1 → Releases f.0 k.memory.frames fs
    → Rests header h (record k { memory = record k.memory { frames = fs }; laundry = laundry }) ids
    (event.Taken (Up (host_id h) object) (message.Return control page dirty false bytes) ∷ past)
rests_taken header h k ids past object control page dirty bytes f fs laundry rests held room releases =
    let was = rests.matches in
    let washed = washed_first k.memory.frames k.memory.resident k.laundry (returns_out h past) f laundry.held was.core.pages.washed held in
    record {
      matches =
          record {
            core = record {
              setting = was.core.setting;
              calm = λ o is. absurd (let bad : false ≡ true = is in cc);
              fits = record {
                parts = fit_released k.memory fs f.0 was.core.fits.parts washed.claimed washed.unowned releases;
                plain = was.core.fits.plain;
                buffers = was.core.fits.buffers;
              };
              spaces = was.core.spaces;
              objects = was.core.objects;
              copied = copied_same (record { at = λ o. refl }) refl was.core.copied;
              controls = was.core.controls;
              flags = was.core.flags;
              pages = record {
                shown =
                    pages_same k.memory.frames fs k.memory.resident k.memory.objects (λ o p. known_local header o p (local header h (place_of o p) past)) f.0
                    was.core.pages.shown releases;
                washed =
                    rw (own_host h) (laundry_less k.memory.frames fs k.memory.resident k.laundry laundry (returns_out h past) f was.core.pages.washed held room
                    washed.claimed
                    releases);
                counted = rw (own_host h) (frames_less (slice_get (reverse header.frames.items) h) k.memory.frames fs f.0 (frames_held header h past)
                    (frames_wired h past) was.core.pages.counted releases);
              };
            };
            settled = record { none_owed = refl; shut = λ region. refl };
            replied = replied_none refl refl;
          };
      used = rests.used;
      referred = rests.referred;
      thin = rests.thin;
      waits = rests.waits;
      order = rests.order;
      idle = rests.idle;
    }

pub rests_laundered : (header : Header) (h : ℕ) (k : Parts) (ids : Ids) (front past : List Event) (f : FrameNo) (fs : FrameTable) (laundry : LaundryList)
    → Rests header h k ids past → IsLaundered h front → k.laundry.held ≡ f ∷ laundry.held → laundry.room ≡ k.laundry.room + 1 → Releases f.0 k.memory.frames fs
    → Rests header h (record k { memory = record k.memory { frames = fs }; laundry = laundry }) ids (front ++ past)
rests_laundered header h k ids front past f fs laundry rests is held room releases =
    subst (λ (z : List Event). Rests header h (record k { memory = record k.memory { frames = fs }; laundry = laundry }) ids z)
    (sym (ap (λ z. z ++ past) is.is))
    (rests_taken header h k ids past is.object is.control is.page is.dirty is.bytes f fs laundry rests held room releases)
