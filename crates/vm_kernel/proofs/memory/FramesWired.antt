-- Frames are wired, or wired no more.
use Rattle.vm_kernel.proofs.Common.{All, Bool, Command, Event, Fit, FrameNo, FrameTable, HasFrames, HasLaundry, HasPages, Header, HostParts, Ids, IsDoneInTurn}
use Rattle.vm_kernel.proofs.Common.{IsWashed, LaundryList, List, Local, None, ObjectTable, Option, Outside, PageRow, Parts, Ran, ResidentTable, Rests, Some}
use Rattle.vm_kernel.proofs.Common.{Starts, [], absent_at, ap, arith, claimed, false, frame_count, frames_free, frames_held, frames_wired, free, head, host_id}
use Rattle.vm_kernel.proofs.Common.{if◌then◌else◌, local, local_of_row, nat_le, nat_tests, place_of, refl, returns_out, reverse, row_at, slice_get, subst, sym}
use Rattle.vm_kernel.proofs.Common.{true, ℕ, ◌+◌, ◌-◌, ◌∙◌, ◌∷◌, ◌≡◌, ◌≤◌}
use Rattle.std.proofs.Common.{nat_lt}
use Rattle.vm_base.specs.declared.code.Code.TheVariants as code
use Rattle.vm_model.specs.declared.event.Event.TheVariants as event
use Rattle.vm_model.specs.declared.command.Command.TheVariants as command
use Rattle.vm_state.specs.Places.{known_local}
use Rattle.vm_kernel.proofs.steps.EventsGrow.{free_is, suffices}
use Rattle.vm_kernel.proofs.steps.HeadAlone.{heads_one, ran_head}
use Rattle.vm_legal.proofs.Heads.{passed}
use Rattle.vm_kernel.proofs.memory.CopiesKept.{copied_same}
use Rattle.vm_kernel.proofs.abroad.OwnHost.{named_host, own_host}
use Rattle.vm_kernel.proofs.abroad.OwnEvents.{own_named}
use Rattle.vm_kernel.proofs.controls.LockReplied.{replied_behind}

-- the frames, with another number wired
abbrev pub with_wired : FrameTable → ℕ → FrameTable
with_wired fs wired = record fs { wired = wired }

fit_wired : (parts : HostParts) (wired : ℕ) → Fit parts → Fit (record parts { frames = with_wired parts.frames wired })
fit_wired parts wired fit =
    record {
      owned = fit.owned;
      held = fit.held;
      listed = fit.listed;
      unlisted = fit.unlisted;
      unowned = fit.unowned;
      inside = fit.inside;
      all_sized = fit.all_sized;
      count = fit.count;
      pages = fit.pages;
    }

washed_wired : (fs : FrameTable) (rs : ResidentTable) (wired : ℕ) (held : List FrameNo) → All (IsWashed fs rs) held
    → All (IsWashed (with_wired fs wired) rs) held
washed_wired fs rs wired held all k f less = let was = all k f less in record { claimed = was.claimed; unowned = was.unowned }

laundry_wired : (fs : FrameTable) (rs : ResidentTable) (laundry : LaundryList) (out wired : ℕ) → HasLaundry fs rs laundry out
    → HasLaundry (with_wired fs wired) rs laundry out
laundry_wired fs rs laundry out wired has =
    record { count = has.count; room = has.room; washed = washed_wired fs rs wired laundry.held has.washed; apart = has.apart }

shown_wired : (fs : FrameTable) (wired : ℕ) (x : Option PageRow) (lacked : Bool) → local_of_row fs x lacked ≡ local_of_row (with_wired fs wired) x lacked
shown_wired fs wired None lacked = refl
shown_wired fs wired (Some row) lacked = refl

pages_wired : (fs : FrameTable) (rs : ResidentTable) (os : ObjectTable) (local_at : ℕ → ℕ → Local) (wired : ℕ) → HasPages fs rs os local_at
    → HasPages (with_wired fs wired) rs os local_at
pages_wired fs rs os local_at wired has = record { shown = λ o p. has.shown o p ∙ shown_wired fs wired (row_at rs o p) (absent_at os o p) }

-- so many frames are wired now, and that was told
ran_wired : (header : Header) (h : ℕ) (outside : Outside) (doing : Command) (past : List Event) (k : Parts) (ids : Ids) (wired : ℕ) → Rests header h k ids past
    → claimed k.memory.frames + wired ≤ frame_count k.memory.frames → head header past doing ≡ Some (event.Wired (host_id h) wired ∷ [])
    → IsDoneInTurn header doing (event.Wired (host_id h) wired ∷ []) past
    → Ran header h outside doing past (record k { memory = record k.memory { frames = with_wired k.memory.frames wired } }) ids
    (event.Wired (host_id h) wired ∷ [])
ran_wired header h outside doing past k ids wired rests few first done =
    let m = rests.matches in
    let frames : HasFrames (slice_get (reverse header.frames.items) h) (with_wired k.memory.frames wired)
    (frames_held header h (event.Wired (host_id h) wired ∷ past)) (frames_wired h (event.Wired (host_id h) wired ∷ past)) =
    record { total = m.core.pages.counted.total; held = m.core.pages.counted.held; wired = rw (own_host h) refl; fits = few } in
    ran_head header h outside doing past (record k { memory = record k.memory { frames = with_wired k.memory.frames wired } }) ids
    (event.Wired (host_id h) wired ∷ []) (event.Wired (host_id h) wired ∷ []) first refl
    (heads_one header h outside doing past (event.Wired (host_id h) wired) (record {
      settled = m.settled;
      cause = tt;
      own_bytes = tt;
      frames = suffices header h (with_wired k.memory.frames wired) (event.Wired (host_id h) wired ∷ past) frames;
      inner = tt;
      said = tt;
      own = own_named h;
      creates = tt;
    }))
    done
    (record {
      matches =
          record {
            core = record {
              setting = m.core.setting;
              calm = m.core.calm;
              fits = record { parts = fit_wired k.memory wired m.core.fits.parts; plain = m.core.fits.plain; buffers = m.core.fits.buffers };
              spaces = m.core.spaces;
              objects = m.core.objects;
              copied = copied_same (record { at = λ o. refl }) refl m.core.copied;
              controls = m.core.controls;
              flags = m.core.flags;
              pages = record {
                shown =
                    pages_wired k.memory.frames k.memory.resident k.memory.objects (λ o p. known_local header o p (local header h (place_of o p) past)) wired
                    m.core.pages.shown;
                washed = laundry_wired k.memory.frames k.memory.resident k.laundry (returns_out h past) wired m.core.pages.washed;
                counted = frames;
              };
            };
            settled = record { none_owed = refl; shut = λ region. refl };
            replied = replied_behind tt m.replied;
          };
      used = rests.used;
      referred = rests.referred;
      thin = rests.thin;
      waits = rests.waits;
      order = rests.order;
      idle = rests.idle;
    })

pub ran_wire : (header : Header) (h : ℕ) (outside : Outside) (count : ℕ) (past : List Event) (k : Parts) (ids : Ids) (before after : List Event)
    (frames : FrameTable) (enough : Bool) → Starts header h (command.Wire (host_id h) count) past k ids before
    → enough ≡ nat_le count (free k.memory.frames) → frames ≡ (if enough then with_wired k.memory.frames (k.memory.frames.wired + count) else k.memory.frames)
    → after ≡ event.Wired k.host frames.wired ∷ before
    → Ran header h outside (command.Wire (host_id h) count) past (record k { memory = record k.memory { frames = frames } }) ids after
ran_wire header h outside count past k ids before after frames enough s test is told =
    let m = s.rests.matches in
    let short : nat_lt (frames_free header h past) count ≡ false = (passed (nat_lt (frames_free header h past) count) code.ResourceShortage None
    s.accepted).0 in
    let same = free_is header h k.memory.frames past m.core.pages.counted in
    let less : count ≤ free k.memory.frames = grind (arith, nat_tests) in
    let yes : enough ≡ true = test ∙ grind (arith, nat_tests) in
    let now : frames ≡ with_wired k.memory.frames (k.memory.frames.wired + count) = is
    ∙ ap (λ b. if b then with_wired k.memory.frames (k.memory.frames.wired + count) else k.memory.frames) yes in
    let fits = m.core.pages.counted.fits in
    let ran = ran_wired header h outside (command.Wire (host_id h) count) past k ids (k.memory.frames.wired + count) s.rests (omega (arith, less, fits))
    (ap (λ z. Some (event.Wired (host_id h) (z + count) ∷ [])) m.core.pages.counted.wired) tt in
    let log : after ≡ event.Wired (host_id h) (k.memory.frames.wired + count) ∷ [] = told
    ∙ (ap (λ z. event.Wired z frames.wired ∷ before) (named_host k.host h m.core.setting.numbered)
    ∙ (ap (λ z. event.Wired (host_id h) z.wired ∷ before) now ∙ ap (λ z. event.Wired (host_id h) (k.memory.frames.wired + count) ∷ z) s.nothing)) in
    subst (λ (z : List Event). Ran header h outside (command.Wire (host_id h) count) past (record k { memory = record k.memory { frames = frames } }) ids z)
    (sym log)
    (subst (λ (z : FrameTable). Ran header h outside (command.Wire (host_id h) count) past (record k { memory = record k.memory { frames = z } }) ids
    (event.Wired (host_id h) (k.memory.frames.wired + count) ∷ [])) (sym now) ran)

pub ran_unwire : (header : Header) (h : ℕ) (outside : Outside) (count : ℕ) (past : List Event) (k : Parts) (ids : Ids) (before after : List Event)
    (frames : FrameTable) (enough : Bool) → Starts header h (command.Unwire (host_id h) count) past k ids before
    → enough ≡ nat_le count k.memory.frames.wired → k.memory.frames ≡ (if enough then with_wired frames (frames.wired + count) else frames)
    → after ≡ event.Wired k.host frames.wired ∷ before
    → Ran header h outside (command.Unwire (host_id h) count) past (record k { memory = record k.memory { frames = frames } }) ids after
ran_unwire header h outside count past k ids before after frames enough s test is told =
    let m = s.rests.matches in
    let short : nat_lt (frames_wired h past) count ≡ false = (passed (nat_lt (frames_wired h past) count) code.InvalidArgument None s.accepted).0 in
    let same = m.core.pages.counted.wired in
    let less : count ≤ k.memory.frames.wired = grind (arith, nat_tests) in
    let yes : enough ≡ true = test ∙ grind (arith, nat_tests) in
    let was : k.memory.frames ≡ with_wired frames (frames.wired + count) = is ∙ ap (λ b. if b then with_wired frames (frames.wired + count) else frames) yes in
    let number : k.memory.frames.wired ≡ frames.wired + count = ap (λ z. z.wired) was in
    let left : k.memory.frames.wired - count ≡ frames.wired = omega arith in
    let now : frames ≡ with_wired k.memory.frames frames.wired = sym (ap (λ z. with_wired z frames.wired) was) in
    let fits = m.core.pages.counted.fits in
    let first : head header past (command.Unwire (host_id h) count) ≡ Some (event.Wired (host_id h) frames.wired ∷ []) = ap
    (λ z. Some (event.Wired (host_id h) (z - count) ∷ [])) m.core.pages.counted.wired ∙ ap (λ z. Some (event.Wired (host_id h) z ∷ [])) left in
    let ran = ran_wired header h outside (command.Unwire (host_id h) count) past k ids frames.wired s.rests (omega (arith, number, fits)) first tt in
    let log : after ≡ event.Wired (host_id h) frames.wired ∷ [] = told
    ∙ (ap (λ z. event.Wired z frames.wired ∷ before) (named_host k.host h m.core.setting.numbered)
    ∙ ap (λ z. event.Wired (host_id h) frames.wired ∷ z) s.nothing) in
    subst (λ (z : List Event). Ran header h outside (command.Unwire (host_id h) count) past (record k { memory = record k.memory { frames = frames } }) ids z)
    (sym log)
    (subst (λ (z : FrameTable). Ran header h outside (command.Unwire (host_id h) count) past (record k { memory = record k.memory { frames = z } }) ids
    (event.Wired (host_id h) frames.wired ∷ [])) (sym now) ran)
