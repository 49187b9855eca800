-- The kernel before anything has happened.
use Rattle.vm_kernel.proofs.Common.{All, BeganInOrder, Declared, EachApart, Event, Header, Ids, IsRanged, IsStart, IsUsed, IsWashed, List, None, Parts, Rests}
use Rattle.vm_kernel.proofs.Common.{Some, Starts, TaskId, Waiting, [], absent_among, absent_at, all_tasks, ap, arith, away, begun_at, claimed, count_again}
use Rattle.vm_kernel.proofs.Common.{count_by, count_claims, entry, false, fills_in, first_ids, frame_count, host_id, in_use, inl, inr, is_some, last_in, length}
use Rattle.vm_kernel.proofs.Common.{length-replicate, live_in, named, nat_lt, nat_tests, none_of, not, object_among, object_at, refl, region_at, replicate}
use Rattle.vm_kernel.proofs.Common.{reverse, reverse-append, row_at, shadow_at, slice_get, subst, suc, sym, take, true, waiting_in, zero, ℕ, ◌+◌, ◌<◌, ◌∙◌, ◌∷◌}
use Rattle.vm_kernel.proofs.Common.{◌≡◌, ◌≤◌}
use Rattle.std.proofs.Math.Bool.{and-false}
use Rattle.vm_abroad.proofs.Home.{homes_start}
use Rattle.vm_model.specs.declared.command.Command.TheVariants as command
use Rattle.vm_model.specs.declared.event.Event.TheVariants as event
use Rattle.vm_shadow.proofs.Ranks.{ranked_none}
use Rattle.vm_kernel.proofs.space.EntriesCounted.{by_none}
use Rattle.vm_kernel.proofs.abroad.OwnHost.{own_host}
use Rattle.vm_kernel.proofs.space.CountsChanged.{more_taken}
use Rattle.vm_kernel.proofs.controls.LockReplied.{replied_none}
use Rattle.vm_model.specs.Regions.{region_of}
use Rattle.vm_state.specs.Counts.{marked_in, marks_of}
use Rattle.vm_state.specs.Pagers.{cached_in}
use Rattle.vm_copies.specs.Copies.{IsCopyOf, copy_at, newest_at}
use Rattle.vm_kernel.proofs.Common.{IfSome, ObjectId, Option}

no_claims : (n : ℕ) → count_claims (replicate n false) ≡ 0
no_claims zero = refl
no_claims (suc n) = no_claims n

-- one more of the declared objects stands in their copy
pub copied_more : (objects kept new : List Declared) (i : ℕ) (object : Declared) → slice_get (reverse objects) i ≡ Some object
    → kept ≡ reverse (take i (reverse objects)) → new ≡ object ∷ kept → new ≡ reverse (take (i + 1) (reverse objects))
copied_more objects kept new i object found was more =
    more ∙ (ap (λ z. object ∷ z) was ∙ sym (ap reverse (more_taken (reverse objects) i object found) ∙ reverse-append (take i (reverse objects)) (object ∷ [])))

-- no entry leads to a region yet
no_entries : (size r : ℕ) → count_by all_tasks r (record { size = size; tasks = [] }) ≡ 0
no_entries size r = by_none all_tasks r (record { size = size; tasks = [] }) (λ task. refl)

-- no temporary region is in use yet
unused : (header : Header) (h : ℕ) (r : ℕ) → named header ≤ r
    → in_use header h r [] ≡ nat_lt 0 (count_by all_tasks r (record { size = header.size; tasks = [] }))
unused header h r temporary =
    let new : nat_lt r (named header) ≡ false = grind (arith, nat_tests) in
    let nothing = no_entries header.size r in
    rw (new, nothing) refl

-- no region is marked yet
unmarked : (header : Header) (n : ℕ) → marked_in n (λ r. region_of header r []) ≡ 0
unmarked header zero = refl
unmarked header (suc n) = unmarked header n

pub first_rests : (header : Header) (h : ℕ) (k : Parts) (count : ℕ) → IsRanged header → h < length header.frames.items → k.size ≡ header.size → k.host.0 ≡ h
    → k.declared.items ≡ header.objects.items → slice_get (reverse header.frames.items) h ≡ Some count → IsStart count header.size k.memory
    → k.maps ≡ record { size = header.size; tasks = [] } → ((r : ℕ) → region_at k.chains r ≡ None) → ((o : ℕ) → shadow_at k.chains o ≡ None)
    → k.copies ≡ record { newest = []; copies = []; room = 0 } → k.laundry.held ≡ [] → k.laundry.room ≡ count → k.waits.rows ≡ []
    → Rests header h k (first_ids header) []
first_rests header h k count ranged known size host declared hosts start maps regions shadows copies held room waits =
    let frames = start.frames_are in
    let rows = start.rows in
    let claims : k.memory.frames.claims ≡ replicate count false = ap (λ z. z.claims) frames in
    let counted : frame_count k.memory.frames ≡ count = ap length claims ∙ length-replicate count false in
    let nothing : claimed k.memory.frames ≡ 0 = ap count_claims claims ∙ no_claims count in
    let no_marks : marks_of header [] ≡ 0 = unmarked header (named header) in
    let few = ranged.objects in
    let objects : (o : ℕ) → object_at k.memory.objects o ≡ None = λ o. ap (object_among o) start.objects in
    let marks : (o p : ℕ) → absent_at k.memory.objects o p ≡ false = λ o p. ap (absent_among o p) start.absent in
    let plain : (o : ℕ) → copy_at k.copies o ≡ None = λ o. ap (λ z. copy_at z o) copies in
    let bare : (o : ℕ) → newest_at k.copies o ≡ None = λ o. ap (λ z. newest_at z o) copies in
    let unfilled : (t r : ℕ) → fills_in r (entry k.waits.rows t) ≡ false = λ t r. ap (λ z. fills_in r (entry z t)) waits in
    let no_use : (r : ℕ) → named header ≤ r → IsUsed (record { size = header.size; tasks = [] }) k.waits.rows r (in_use header h r []) = λ r temporary. record {
      why = λ used. inl (let test = sym (unused header h r temporary) ∙ used in grind (arith, nat_tests));
      is = λ needed. elim needed [
        | inl some ↦ let nothing = no_entries header.size r in absurd (omega (arith, some, nothing))
        | inr filled ↦ absurd (let bad : false ≡ true = sym (unfilled filled.task r) ∙ filled.fills in cc)
      ];
    } in
    record {
      matches =
          record {
            core = record {
              setting = record {
                ranged = ranged;
                known = known;
                sized = size;
                numbered = host;
                objects = declared;
              };
              calm = λ o is. absurd (let bad : false ≡ true = is in cc);
              fits = record {
                parts = start.fit;
                plain = λ o p row is. none_of (row_at k.memory.resident o p) row (rows o p) is;
                buffers = ap (λ z. z.size) start.buffers ∙ sym size;
              };
              spaces = record {
                tasks = rw maps (record { sized = refl; hosts = λ task. refl; rows = λ task here. refl });
                entries = rw maps (record {
                  inside = λ task. tt;
                  known = tt;
                  most = λ task le. refl;
                  few = λ task. omega arith;
                  counts = λ r row is. none_of (region_at k.chains r) row (regions r) is;
                });
                shared = rw maps (λ task. tt);
                uses = rw maps (record {
                  used = no_use;
                  files = λ r file some. let nothing = no_entries header.size r in absurd (omega (arith, some, nothing));
                  among = λ task rows is. none_of None rows refl is;
                  apart = λ task r none why. refl;
                });
                homes = (λ r row paged is. none_of (region_at k.chains r) row (regions r) is, homes_start header);
              };
              objects = record {
                regions = record {
                  region = refl;
                  object = refl;
                  marks = sym no_marks;
                  few = omega (arith, few, no_marks);
                  rows = λ r row is. none_of (region_at k.chains r) row (regions r) is;
                  shadows = λ o row is. none_of (shadow_at k.chains o) row (shadows o) is;
                  bottoms = λ o referred none. refl;
                  unmade = λ r le. regions r;
                  unknown = λ o le. objects o;
                  tops = λ r row is. none_of (region_at k.chains r) row (regions r) is;
                  unders = λ o row is. none_of (shadow_at k.chains o) row (shadows o) is;
                  ranked = ranked_none k.chains shadows;
                  fits =
                      record {
                        tops = λ r row is. none_of (region_at k.chains r) row (regions r) is;
                        unders = λ o row is. none_of (shadow_at k.chains o) row (shadows o) is;
                      };
                  counts = λ o row is. none_of (object_at k.memory.objects o) row (objects o) is;
                };
                kinds = record {
                  kinds = λ o row is. none_of (object_at k.memory.objects o) row (objects o) is;
                  present = λ o p less. marks o p;
                  tops = λ r row least is. none_of (region_at k.chains r) row (regions r) is;
                  unders = λ o row is. none_of (shadow_at k.chains o) row (shadows o) is;
                };
                files = λ o file. sym (ap is_some (objects o));
                sizes = record {
                  at = λ o row least is. none_of (object_at k.memory.objects o) row (objects o) is;
                  few = λ o row is. none_of (object_at k.memory.objects o) row (objects o) is;
                };
                undelayed = λ o less. record { copy = refl; pages = refl };
              };
              copied = record {
                known = record {
                  are = λ o referred. sym (ap is_some (plain o));
                  copy = λ c row is. none_of (copy_at k.copies c) row (plain c) is;
                  newest = λ f c is. none_of None c refl is;
                  last = λ f c is. none_of (newest_at k.copies f) c (bare f) is;
                  had = λ c row is. none_of (copy_at k.copies c) row (plain c) is;
                  unpushed = λ o p none. refl;
                };
                fits = record {
                  living = record { at = λ s. subst (λ (z : Option ObjectId). IfSome z (λ c. IsCopyOf s (copy_at k.copies c.0))) (sym (bare s)) tt };
                  fits = λ c row is. none_of (copy_at k.copies c) row (plain c) is;
                  stands = λ s c is. none_of (newest_at k.copies s) c (bare s) is;
                };
              };
              controls = record {
                last = λ o. sym (ap last_in (objects o));
                live = λ o. sym (ap live_in (objects o));
                ready = λ o control live. none_of None control refl live;
                all_live = record { at = λ o row is. none_of (object_at k.memory.objects o) row (objects o) is };
                numbers = record { at = λ o row is. none_of (object_at k.memory.objects o) row (objects o) is };
                ended = λ o row is. none_of (object_at k.memory.objects o) row (objects o) is;
                home = λ o row least is. none_of (object_at k.memory.objects o) row (objects o) is;
              };
              flags = λ o less. sym (ap cached_in (objects o));
              pages = record {
                shown = record { shown = λ o p. rw (rows o p, marks o p) (ap (λ z. record away { absent = z }) (and-false (not (nat_lt o (named header))))) };
                washed = record {
                  count = sym (ap length held);
                  room = let none = ap length held in omega (arith, none, room, counted);
                  washed = subst (All (IsWashed k.memory.frames k.memory.resident)) (sym held) (λ f none less. absurd (omega arith));
                  apart = subst EachApart (sym held) tt;
                };
                counted = record {
                  total = hosts ∙ ap Some (sym counted);
                  held = sym nothing;
                  wired = sym (ap (λ z. z.wired) frames);
                  fits = let none = ap (λ z. z.wired) frames in omega (arith, nothing, none);
                };
              };
            };
            settled = record { none_owed = refl; shut = λ region. refl };
            replied = replied_none refl refl;
          };
      used = record {
        regions = λ r row is. none_of (region_at k.chains r) row (regions r) is;
        copies = record {
          each = λ t w is. none_of (entry k.waits.rows t) w (ap (λ z. entry z t) waits) is;
          apart = λ t u r one two. absurd (let bad : false ≡ true = sym (unfilled t r) ∙ one in cc);
        };
      };
      referred = record {
        live = λ o row is. none_of (object_at k.memory.objects o) row (objects o) is;
        pages = λ o p row is. none_of (row_at k.memory.resident o p) row (rows o p) is;
        locks = λ o p row is. none_of (row_at k.memory.resident o p) row (rows o p) is;
        shadows = λ o row is. none_of (shadow_at k.chains o) row (shadows o) is;
      };
      thin = λ upper lower can. none_of (shadow_at k.chains upper) can.link (shadows upper) can.over;
      waits =
          record {
            is = λ t here. sym (ap (λ z. waiting_in k.maps.size (entry z t)) waits);
            allowed = λ t w is. none_of (entry k.waits.rows t) w (ap (λ z. entry z t) waits) is;
            sized = λ t w is. none_of (entry k.waits.rows t) w (ap (λ z. entry z t) waits) is;
            reasons = λ t w is. none_of (entry k.waits.rows t) w (ap (λ z. entry z t) waits) is;
            passed = λ t w is. none_of (entry k.waits.rows t) w (ap (λ z. entry z t) waits) is;
            aims = λ t w key is. none_of (entry k.waits.rows t) w (ap (λ z. entry z t) waits) is;
            askers = λ o p row is. none_of (row_at k.memory.resident o p) row (rows o p) is;
            ready = λ o p row is. none_of (row_at k.memory.resident o p) row (rows o p) is;
          };
      order = subst (λ (z : List Waiting). BeganInOrder (λ task. begun_at task []) 0 z) (sym waits) tt;
      idle = ap count_again waits;
    }

-- a line changes nothing
pub rests_line : (header : Header) (h : ℕ) (k : Parts) (ids : Ids) (line : ℕ) (past : List Event) → Rests header h k ids past
    → Rests header h k ids (event.Line line ∷ past)
rests_line header h k ids line past rests =
    let m = rests.matches in
    record {
      matches =
          record {
            core = record {
              setting = m.core.setting;
              calm = λ o is. absurd (let bad : false ≡ true = is in cc);
              fits = m.core.fits;
              spaces = m.core.spaces;
              objects = m.core.objects;
              copied = m.core.copied;
              controls = m.core.controls;
              flags = m.core.flags;
              pages = m.core.pages;
            };
            settled = record { none_owed = refl; shut = λ region. refl };
            replied = replied_none refl refl;
          };
      used = rests.used;
      referred = rests.referred;
      thin = rests.thin;
      waits = rests.waits;
      order = rests.order;
      idle = rests.idle;
    }

-- a first command may make a task
pub may_make : (header : Header) (h : ℕ) (given : Header) (past : List Event) (task : TaskId) (line : ℕ) (k : Parts) (ids : Ids) → given ≡ header
    → past ≡ event.Line line ∷ [] → Rests header h k ids [] → task.0 < 1024 → Starts given h (command.Task task (host_id h)) past k ids []
may_make header h given past task line k ids same is rests below =
    let starts : Starts header h (command.Task task (host_id h)) (event.Line line ∷ []) k ids [] =
    record {
      rests = rests_line header h k ids line [] rests;
      acts = own_host h;
      range = (below, rests.matches.core.setting.known);
      accepted = refl;
      begins = record { line = line; before = []; is = refl };
      nothing = refl;
    } in
    subst (λ (z : Header). Starts z h (command.Task task (host_id h)) past k ids []) (sym same)
    (subst (λ (z : List Event). Starts header h (command.Task task (host_id h)) z k ids []) (sym is) starts)
