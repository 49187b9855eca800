-- The server's answers leave the world standing for its history.
use Rattle.std.proofs.Common.{zero, suc, inl, inr, ◌≡◌, ◌≢◌, ◌<◌, ◌≤◌, ◌+◌, ◌==◌, ◌&&◌, ◌∙◌, ℕ, List, [], ◌∷◌, ◌++◌, Bool, true, false, not, if◌then◌else◌}
use Rattle.std.proofs.Common.{Option, Some, None, map, refl, ap, sym, subst, arith, length}
use Rattle.std.specs.Prelude.{slice_get, ◌⊎◌}
use Rattle.std.proofs.Math.ListN.{set, length-set}
use Rattle.std.proofs.lemmas.Bool.Decides.{nat_tests}
use native.Mathlib.Decide.{ℕ_discrete}
use Rattle.vm_base.specs.declared.ids.HostId.{HostId}
use Rattle.vm_base.specs.declared.ids.Lock.{Lock}
use Rattle.vm_model.specs.declared.message.Message.{Message}
use Rattle.vm_model.specs.declared.event.Event.{Event}
use Rattle.vm_model.specs.Words.{Act, UpWord, TakenUp, SentDown, Supplying, Locking}
use Rattle.vm_model.specs.Side.{Side, side, nobody}
use Rattle.vm_model.specs.Side.{rest as tail}
use Rattle.vm_model.specs.Waiters.{waiters}
use Rattle.vm_model.specs.Server.{first, Wanting, line, kept}
use Rattle.vm_model.specs.PagePart.{world_part}
use Rattle.vm_model.specs.Channels.{up_queue, down_queue}
use Rattle.vm_model.specs.PageLicences.{ActsLicensed, Cause, SupplyRow}
use Rattle.vm_model.specs.Coherence.{Done, StepsDone, SomebodyIsAwaited, begins_step}
use Rattle.vm_coherence.proofs.Law.{world, cause}
use Rattle.vm_coherence.proofs.Protocol.{one_request, one_unlock, completed_awaited, ended_awaited}
use Rattle.sms_pages.specs.declared.reply.Reply.{Reply}
use Rattle.sms_pages.specs.declared.reply.Reply.TheVariants as reply
use Rattle.sms_pages.specs.Directory.{Directory, IsServedDirectory, IsSame, wanted_access}
use Rattle.sms_pages.specs.Desk.{AllLong}
use Rattle.std.specs.VecDeque.{deque_len, deque_capacity}
use Rattle.sms_pages.specs.Stands.{AllAreRecalled, DirectoryStands, StandsFor, RepliesHaveCause, Hears, lock_number, reply_act, reply_acts, taking_act}
use Rattle.sms_pages.proofs.Taken.{request_taken, unlock_taken, after_return, completed_taken, end_taken}
use Rattle.sms_pages.proofs.Following.{serving}
use Rattle.sms_proto.specs.declared.kernel.Kernel.{Kernel}
use Rattle.sms_proto.specs.declared.letter.Letter.{Letter}
use Rattle.sms_proto.specs.declared.letter.Letter.TheVariants as letter
use Rattle.sms_proto.specs.declared.letter.Order.{Order}
use Rattle.sms_proto.specs.declared.letter.Order.TheVariants as order
use Rattle.sms_proto.specs.Letters.{letter_word, order_word, letter_taken, order_sent, supply_lock}
use Rattle.sms_proto.specs.Kernels.{KernelFits, Each, IsProper, IsWholeOrder, IsPrompt, SamePage}
use Rattle.vm_model.specs.declared.message.Channel.TheVariants.{Up}
use Rattle.vm_model.specs.declared.event.Event.TheVariants.{Taken}
use Rattle.sms_proto.specs.Steps.{taken_head, AddsFirst}
use Rattle.sms_proto.specs.Worlds.{SameHostSide, Present, StandsAt, WorldStands, Answering, noted_by, heard_of, heard_in, reply_host, reply_order, HasPlaces}
use Rattle.sms_proto.specs.Worlds.{IsSupplied}
use Rattle.sms_proto.proofs.Hosts.{kept_act, kept_wait, not_mine}
use Rattle.sms_proto.proofs.Standing.{step_at, each_after, get_set_same, get_set_other}
use Rattle.sms_proto.proofs.Seeing.{present_of}
use Rattle.sms_proto.proofs.Mail.{taken_part, sent_part}

-- the same of the page

pub prompt_same : (k m : Kernel) → SamePage k m → IsPrompt k → IsPrompt m
prompt_same k m s prompt some plain =
    let before = prompt (λ none. some (s.same_want ∙ none)) (sym s.same_asked ∙ plain) in
    (subst (λ (n : ℕ). 0 < n) (sym s.same_right) before.0, s.same_unlocking ∙ before.1)

-- what is known where a letter is taken

first_word : (ls rest : List Letter) (l : Letter) → ls ≡ l ∷ rest → first (map letter_word ls) ≡ Some (letter_word l)
first_word ls rest l is = ap (λ (q : List Letter). first (map letter_word q)) is

letter_cause : (size h : ℕ) (l : Letter) (past : List Act) → first (side h past).up ≡ Some (letter_word l) → Cause size h (TakenUp (letter_word l)) past
letter_cause size h (letter.Request control access) past is = is
letter_cause size h (letter.Unlock control) past is = is
letter_cause size h (letter.Return control keep bytes) past is = is
letter_cause size h (letter.Completed control) past is = is
letter_cause size h (letter.Terminate control) past is = is

noted_stands : (size h : ℕ) (l : Letter) (d : Directory) (past : List Act) → ActsLicensed size past → StepsDone past → StandsFor size d past → h < 8
    → first (side h past).up ≡ Some (letter_word l) → StandsFor size (noted_by h l d) (taking_act h (letter_word l) ∷ past)
noted_stands size h (letter.Request control access) d past licensed steps s lt is =
    request_taken size h control (wanted_access access) d past s lt (one_request size h control (wanted_access access) past licensed is)
noted_stands size h (letter.Unlock control) d past licensed steps s lt is = unlock_taken size h 3 d past s lt (one_unlock size h 3 past licensed steps is)
noted_stands size h (letter.Return control keep bytes) d past licensed steps s lt is = after_return size h true keep bytes d past s lt
noted_stands size h (letter.Completed control) d past licensed steps s lt is =
    completed_taken size h control 1 d past s lt (λ some. completed_awaited size h control 1 past licensed steps is)
noted_stands size h (letter.Terminate control) d past licensed steps s lt is =
    end_taken size h control d past s lt (λ some. ended_awaited size h control past licensed steps is some)

noted_long : (size control h : ℕ) (l : Letter) (d : Directory) → IsProper size control l → length d.bytes ≡ size → length (noted_by h l d).bytes ≡ size
noted_long size control h (letter.Request asker access) d proper long = long
noted_long size control h (letter.Unlock c) d proper long = long
noted_long size control h (letter.Return c keep bytes) d proper long = proper
noted_long size control h (letter.Completed c) d proper long = long
noted_long size control h (letter.Terminate c) d proper long = long

hears_each : (size : ℕ) (ks : List Kernel) (history : List Event) → ((g : ℕ) → StandsAt size g history (slice_get ks g))
    → Hears (heard_in ks) (world_part size history)
hears_each size ks history each g = one (slice_get ks g) (each g) where
  one : (o : Option Kernel) → StandsAt size g history o → heard_of o ≡ (side g (world_part size history)).heard
  one None a = sym (ap (λ (s : Side). s.heard) a.nothing)
  one (Some k) p =
      subst (λ (n : ℕ). k.heard ≡ (side g (world_part n history)).heard) p.same_size
      (subst (λ (n : ℕ). k.heard ≡ (side n (world_part k.size history)).heard) p.same_host (sym p.fits.heard))

pub kept_taken : (size g : ℕ) (host : HostId) (l : Letter) (past : List Event) → g ≢ host.0 → (side g (world_part size past)).step ≡ 0
    → SameHostSide size g past (letter_taken host l ∷ past)
kept_taken size g host l past apart none =
    record {
      same_side =
          ap (λ (a : List Act). side g a) (taken_part size host l past)
          ∙ kept_act g host.0 (TakenUp (letter_word l)) (world_part size past) (λ is. apart (sym is)) none;
      same_waits =
          ap (λ (a : List Act). waiters g a) (taken_part size host l past)
          ∙ kept_wait g host.0 (TakenUp (letter_word l)) (world_part size past) (λ is. apart (sym is));
      same_up = not_mine host.0 g true _ (up_queue g 0 past) (λ is. apart (sym is));
      same_down = λ n. refl;
    }

pub kept_sent : (size g : ℕ) (host : HostId) (control : ℕ) (o : Order) (past : List Event) → g ≢ host.0 → (side g (world_part size past)).step ≡ 0
    → SameHostSide size g past (order_sent host control o ∷ past)
kept_sent size g host control o past apart none =
    record {
      same_side =
          ap (λ (a : List Act). side g a) (sent_part size host control o past)
          ∙ kept_act g host.0 (SentDown control (order_word o)) (world_part size past) (λ is. apart (sym is)) none;
      same_waits =
          ap (λ (a : List Act). waiters g a) (sent_part size host control o past)
          ∙ kept_wait g host.0 (SentDown control (order_word o)) (world_part size past) (λ is. apart (sym is));
      same_up = refl;
      same_down = λ n. not_mine host.0 g (true && control == n) _ (down_queue g 0 n past) (λ is. apart (sym is));
    }

-- a letter is taken, and the line served
pub answering_heard : (size h : ℕ) (ks : List Kernel) (d after : Directory) (replies : List Reply) (old new : List Event) (k m : Kernel) (l : Letter)
    (rest : List Letter) → h < length ks → slice_get ks h ≡ Some k → WorldStands size ks d old → k.up.items ≡ l ∷ rest → new ≡ letter_taken k.host l ∷ old
    → KernelFits new m → SamePage k m → IsServedDirectory (noted_by h l d) after replies → Answering size (set ks h m) after replies new
answering_heard size h ks d after replies old new k m l rest within is w items added fits same served =
    record {
      answered =
          serving size (heard_in (set ks h m)) (noted_by h l d) after replies (world_part size new) licensed stands (hears_each size (set ks h m) new each)
          served;
      steps = subst (λ (a : List Act). StepsDone a) (sym acts) (λ begins. done, w.steps);
      each = each;
      few = omega (arith, w.few, length-set {A = Kernel} ks h m);
      long = ap (λ (b : List ℕ). length b) served.bytes ∙ noted_long size k.control h l d proper w.long;
    } where
      p : Present size h old k
      p = present_of size h ks d old k w is

      done : Done (world_part size old)
      done g = step_at size g old (slice_get ks g) (w.each g)

      acts : world_part size new ≡ taking_act h (letter_word l) ∷ world_part size old
      acts =
          ap (λ (e : List Event). world_part size e) added
          ∙ (taken_part size k.host l old ∙ ap (λ (n : ℕ). taking_act n (letter_word l) ∷ world_part size old) p.same_host)

      front : first (side h (world_part size old)).up ≡ Some (letter_word l)
      front =
          subst (λ (n : ℕ). first (side h (world_part n old)).up ≡ Some (letter_word l)) p.same_size
          (subst (λ (n : ℕ). first (side n (world_part k.size old)).up ≡ Some (letter_word l)) p.same_host
          (ap (λ (q : List UpWord). first q) p.fits.up ∙ first_word k.up.items rest l items))

      licensed : ActsLicensed size (world_part size new)
      licensed = subst (λ (a : List Act). ActsLicensed size a) (sym acts) (letter_cause size h l (world_part size old) front, w.licensed)

      stands : StandsFor size (noted_by h l d) (world_part size new)
      stands =
          subst (λ (a : List Act). StandsFor size (noted_by h l d) a) (sym acts) (noted_stands size h l d (world_part size old) w.licensed w.steps w.noted
          (omega (arith, w.few)) front)

      proper : IsProper size k.control l
      proper = subst (λ (n : ℕ). IsProper n k.control l) p.same_size (subst (λ (q : List Letter). Each (IsProper k.size k.control) q) items p.fits.proper).0

      each : (g : ℕ) → StandsAt size g new (slice_get (set ks h m) g)
      each =
          each_after size ks h m old new within w.each (λ g apart. subst (λ (e : List Event). SameHostSide size g old e) (sym added)
          (kept_taken size g k.host l old (λ e. apart (e ∙ p.same_host)) (done g)))
          (record {
            same_host = ap (λ (x : HostId). x.0) same.same_host ∙ p.same_host;
            same_size = same.same_size ∙ p.same_size;
            fits = fits;
            prompt = prompt_same k m same p.prompt;
          })

-- a reply is sent

acts_end : (heard : ℕ → ℕ) (rs : List Reply) (r : Reply) (past : List Act)
    → reply_acts heard (rs ++ r ∷ []) ++ past ≡ reply_acts heard rs ++ (reply_act heard r ∷ past)
acts_end heard [] r past = refl
acts_end heard (x ∷ rs) r past = ap (λ (a : List Act). reply_act heard x ∷ a) (acts_end heard rs r past)

licensed_rest : (size : ℕ) (front past : List Act) → ActsLicensed size (front ++ past) → ActsLicensed size past
licensed_rest size [] past licensed = licensed
licensed_rest size (a ∷ front) past licensed = licensed_rest size front past licensed.1

pub oldest_licensed : (size : ℕ) (ks : List Kernel) (d : Directory) (rest : List Reply) (r : Reply) (history : List Event)
    → Answering size ks d (rest ++ r ∷ []) history → ActsLicensed size (reply_act (heard_in ks) r ∷ world_part size history)
oldest_licensed size ks d rest r history a =
    licensed_rest size (reply_acts (heard_in ks) rest) _ (subst (λ (l : List Act). ActsLicensed size l)
    (acts_end (heard_in ks) rest r (world_part size history)) a.answered.licensed)

none_some : 0 < 0 → ⊥
none_some some = omega arith

none_one : (n : ℕ) → n ≡ 0 → n ≡ 1 → ⊥
none_one n e f = omega arith

-- a reply goes to a host that the world has
reply_some : (size : ℕ) (heard : ℕ → ℕ) (r : Reply) (past : List Act) → ActsLicensed size (reply_act heard r ∷ past) → (side (reply_host r).0 past) ≡ nobody → ⊥
reply_some size heard (reply.Supply host lock bytes) past l is =
    let c = cause size host.0 (SentDown (heard host.0) (Supplying (lock_number lock) false bytes)) past (world size past l.1) l.0 in none_some
    (subst (λ (s : Side). 0 < s.pending) is c.1)
reply_some size heard (reply.Flush host) past l is = none_some (subst (λ (s : Side). 0 < s.holds) is l.0.4)
reply_some size heard (reply.CleanLock host) past l is = none_some (subst (λ (s : Side). 0 < s.holds) is l.0.4)
reply_some size heard (reply.Unlock host) past l is =
    let c = cause size host.0 (SentDown (heard host.0) (Locking 1 0 false 0 false)) past (world size past l.1) l.0 in none_one (side host.0 past).holds
    (ap (λ (s : Side). s.holds) is) c.4

within_or : (xs : List Kernel) (i : ℕ) → (i < length xs) ⊎ (slice_get xs i ≡ None)
within_or [] i = inr refl
within_or (x ∷ xs) zero = inl (omega arith)
within_or (x ∷ xs) (suc i) = elim (within_or xs i) [
  | inl lt ↦ inl (omega arith)
  | inr none ↦ inr none
]

pub reply_within : (size : ℕ) (ks : List Kernel) (d : Directory) (rest : List Reply) (r : Reply) (history : List Event)
    → Answering size ks d (rest ++ r ∷ []) history → (reply_host r).0 < length ks
reply_within size ks d rest r history a = elim (within_or ks (reply_host r).0) [
  | inl lt ↦ lt
  | inr none ↦ absurd (reply_some size (heard_in ks) r (world_part size history) (oldest_licensed size ks d rest r history a)
      (subst (λ (o : Option Kernel). StandsAt size (reply_host r).0 history o) none (a.each (reply_host r).0)).nothing)
]

-- the words of a reply
reply_part : (size : ℕ) (heard : ℕ → ℕ) (r : Reply) (k : Kernel) (past : List Event) → k.host ≡ reply_host r → heard k.host.0 ≡ k.heard
    → ActsLicensed size (reply_act heard r ∷ world_part size past)
    → world_part size (order_sent k.host k.heard (reply_order r) ∷ past) ≡ reply_act heard r ∷ world_part size past
reply_part size heard r k past host hears licensed =
    sent_part size k.host k.heard (reply_order r) past
    ∙ (ap (λ (n : ℕ). record { host = k.host.0; effect = SentDown n (order_word (reply_order r)) } ∷ world_part size past) (sym hears)
    ∙ (ap (λ (g : HostId). record { host = g.0; effect = SentDown (heard g.0) (order_word (reply_order r)) } ∷ world_part size past) host
    ∙ ap (λ (a : Act). a ∷ world_part size past) (one r licensed))) where
      lock_of : (l : Lock) (w : Option Wanting) (h : ℕ) (acts : List Act) → SupplyRow h (lock_number l) acts w → supply_lock (not l.write) ≡ lock_number l
      lock_of l None h acts row = absurd row
      lock_of l (Some w) h acts row = by_bits l.read l.write row.2 where
        by_bits : (read write : Bool) → (if read then 1 else 0) + (if write then 2 else 0) ≡ (if w.access == 3 then 0 else 2)
            → supply_lock (not write) ≡ (if read then 1 else 0) + (if write then 2 else 0)
        by_bits true true is = absurd (grind (arith, nat_tests))
        by_bits true false is = absurd (grind (arith, nat_tests))
        by_bits false true is = refl
        by_bits false false is = refl

      one : (r : Reply) → ActsLicensed size (reply_act heard r ∷ world_part size past)
          → record { host = (reply_host r).0; effect = SentDown (heard (reply_host r).0) (order_word (reply_order r)) } ≡ reply_act heard r
      one (reply.Supply host lock bytes) l =
          ap (λ (n : ℕ). record { host = host.0; effect = SentDown (heard host.0) (Supplying n false bytes) })
          (lock_of lock (first (line (world_part size past))) host.0 (world_part size past) l.0.4)
      one (reply.Flush host) l = refl
      one (reply.CleanLock host) l = refl
      one (reply.Unlock host) l = refl

pub reply_whole : (size : ℕ) (heard : ℕ → ℕ) (r : Reply) (past : List Act) (bytes : List ℕ) → ActsLicensed size (reply_act heard r ∷ past)
    → kept size past ≡ bytes → length bytes ≡ size → IsWholeOrder size (reply_order r)
reply_whole size heard (reply.Supply host lock supplied) past bytes l same long = ap (λ (b : List ℕ). length b) (l.0.3 ∙ same) ∙ long
reply_whole size heard (reply.Flush host) past bytes l same long = tt
reply_whole size heard (reply.CleanLock host) past bytes l same long = tt
reply_whole size heard (reply.Unlock host) past bytes l same long = tt

heard_set : (ks : List Kernel) (h : ℕ) (k m : Kernel) → h < length ks → slice_get ks h ≡ Some k → m.heard ≡ k.heard → (g : ℕ)
    → heard_in (set ks h m) g ≡ heard_in ks g
heard_set ks h k m within is same g = elim (ℕ_discrete g h) [
  | yes e ↦ subst (λ (n : ℕ). heard_in (set ks h m) n ≡ heard_in ks n) (sym e) (ap heard_of (get_set_same ks h m within) ∙ (same ∙ sym (ap heard_of is)))
  | no e ↦ ap heard_of (get_set_other ks h g m e)
]

pub answering_sent : (size h : ℕ) (ks : List Kernel) (d : Directory) (rest : List Reply) (r : Reply) (old new : List Event) (k m : Kernel) → h < length ks
    → slice_get ks h ≡ Some k → h ≡ (reply_host r).0 → Answering size ks d (rest ++ r ∷ []) old → new ≡ order_sent k.host k.heard (reply_order r) ∷ old
    → KernelFits new m → SamePage k m → m.heard ≡ k.heard → Answering size (set ks h m) d rest new
answering_sent size h ks d rest r old new k m within is mine a added fits same heard =
    record {
      answered = subst (λ (f : ℕ → ℕ). RepliesHaveCause size f d rest (world_part size new)) (λ i g. sym (heard_set ks h k m within is heard g) i) answered;
      steps = subst (λ (l : List Act). StepsDone l) (sym acts) (none r, a.steps);
      each =
          each_after size ks h m old new within a.each (λ g apart. subst (λ (e : List Event). SameHostSide size g old e) (sym added)
          (kept_sent size g k.host k.heard (reply_order r) old (λ e. apart (e ∙ p.same_host)) (step_at size g old (slice_get ks g) (a.each g))))
          (record {
            same_host = ap (λ (x : HostId). x.0) same.same_host ∙ p.same_host;
            same_size = same.same_size ∙ p.same_size;
            fits = fits;
            prompt = prompt_same k m same p.prompt;
          });
      few = omega (arith, a.few, length-set {A = Kernel} ks h m);
      long = a.long;
    } where
      p : Present size h old k
      p = subst (λ (o : Option Kernel). StandsAt size h old o) is (a.each h)

      licensed : ActsLicensed size (reply_act (heard_in ks) r ∷ world_part size old)
      licensed = oldest_licensed size ks d rest r old a

      hears : heard_in ks k.host.0 ≡ k.heard
      hears = ap (λ (n : ℕ). heard_in ks n) p.same_host ∙ ap heard_of is

      acts : world_part size new ≡ reply_act (heard_in ks) r ∷ world_part size old
      acts =
          ap (λ (e : List Event). world_part size e) added
          ∙ reply_part size (heard_in ks) r k old (ap (λ (n : ℕ). record { 0 = n }) (p.same_host ∙ mine)) hears licensed

      moved : reply_acts (heard_in ks) (rest ++ r ∷ []) ++ world_part size old ≡ reply_acts (heard_in ks) rest ++ world_part size new
      moved = acts_end (heard_in ks) rest r (world_part size old) ∙ ap (λ (l : List Act). reply_acts (heard_in ks) rest ++ l) (sym acts)

      answered : RepliesHaveCause size (heard_in ks) d rest (world_part size new)
      answered =
          record {
            licensed = subst (λ (l : List Act). ActsLicensed size l) moved a.answered.licensed;
            stands = subst (λ (l : List Act). StandsFor size d l) moved a.answered.stands;
            served = subst (λ (l : List Act). SomebodyIsAwaited l) moved a.answered.served;
            recalled = subst (λ (l : List Act). AllAreRecalled l) moved a.answered.recalled;
          }

      none : (r : Reply) → begins_step (reply_act (heard_in ks) r).effect ≡ true → Done (world_part size old)
      none (reply.Supply host lock bytes) b = absurd (cc)
      none (reply.Flush host) b = absurd (cc)
      none (reply.CleanLock host) b = absurd (cc)
      none (reply.Unlock host) b = absurd (cc)

-- all replies are sent
pub answering_none : (size : ℕ) (ks : List Kernel) (d : Directory) (history : List Event) → Answering size ks d [] history → WorldStands size ks d history
answering_none size ks d history a =
    record {
      licensed = a.answered.licensed;
      steps = a.steps;
      served = a.answered.served;
      noted = a.answered.stands;
      each = a.each;
      few = a.few;
      long = a.long;
    }

-- the pages at hand

pub supplied_long : (size : ℕ) (o : Order) (pages : List (List ℕ)) → IsWholeOrder size o → AllLong size pages → IsSupplied o pages
supplied_long size (order.Supply writes bytes) pages whole long = subst (λ (n : ℕ). AllLong n pages) (sym whole) long
supplied_long size order.Flush pages whole long = tt
supplied_long size order.Clean pages whole long = tt
supplied_long size order.Unlock pages whole long = tt

pub answer_whole : (size : ℕ) (ks : List Kernel) (d : Directory) (rest : List Reply) (r : Reply) (history : List Event)
    → Answering size ks d (rest ++ r ∷ []) history → IsWholeOrder size (reply_order r)
answer_whole size ks d rest r history a =
    reply_whole size (heard_in ks) r (world_part size history) d.bytes (oldest_licensed size ks d rest r history a)
    (kept_acts (rest ++ r ∷ []) ∙ a.answered.stands.same_bytes) a.long where
      kept_acts : (rs : List Reply) → kept size (world_part size history) ≡ kept size (reply_acts (heard_in ks) rs ++ world_part size history)
      kept_acts [] = refl
      kept_acts (reply.Supply host lock bytes ∷ rs) = kept_acts rs
      kept_acts (reply.Flush host ∷ rs) = kept_acts rs
      kept_acts (reply.CleanLock host ∷ rs) = kept_acts rs
      kept_acts (reply.Unlock host ∷ rs) = kept_acts rs

-- room for orders

pub set_places : (n : ℕ) (ks : List Kernel) (h : ℕ) (m : Kernel) → h < length ks → HasPlaces (n + 1) ks → deque_len m.down + n ≤ deque_capacity m.down
    → HasPlaces n (set ks h m)
set_places n ks h m within places own g k is = elim (ℕ_discrete g h) [
  | yes e ↦
      let found : slice_get (set ks h m) g ≡ Some m = ap (λ (i : ℕ). slice_get (set ks h m) i) e ∙ get_set_same ks h m within in
      let same : Some m ≡ Some k = sym found ∙ is in
      let m_is : m ≡ k = cc in
      subst (λ (x : Kernel). deque_len x.down + n ≤ deque_capacity x.down) m_is own
  | no e ↦ let more = places g k (sym (get_set_other ks h g m e) ∙ is) in omega (arith, more)
]

pub set_places_below : (n i : ℕ) (ks : List Kernel) (m : Kernel) → i < length ks
    → ((g : ℕ) (k : Kernel) → g < i → slice_get ks g ≡ Some k → deque_len k.down + n ≤ deque_capacity k.down) → deque_len m.down + n ≤ deque_capacity m.down
    → (g : ℕ) (k : Kernel) → g < i + 1 → slice_get (set ks i m) g ≡ Some k → deque_len k.down + n ≤ deque_capacity k.down
set_places_below n i ks m within places own g k lt is = elim (ℕ_discrete g i) [
  | yes e ↦
      let found : slice_get (set ks i m) g ≡ Some m = ap (λ (j : ℕ). slice_get (set ks i m) j) e ∙ get_set_same ks i m within in
      let same : Some m ≡ Some k = sym found ∙ is in
      let m_is : m ≡ k = cc in
      subst (λ (x : Kernel). deque_len x.down + n ≤ deque_capacity x.down) m_is own
  | no e ↦ places g k (omega arith) (sym (get_set_other ks i g m e) ∙ is)
]

-- a host whose room alone changes
pub set_same : (size : ℕ) (history : List Event) (ks : List Kernel) (h : ℕ) (k m : Kernel) → h < length ks → slice_get ks h ≡ Some k
    → ((e : List Event) → KernelFits e k → KernelFits e m) → SamePage k m → ((g : ℕ) → StandsAt size g history (slice_get ks g)) → (g : ℕ)
    → StandsAt size g history (slice_get (set ks h m) g)
set_same size history ks h k m within is fits same each g = elim (ℕ_discrete g h) [
  | yes e ↦ subst (λ (n : ℕ). StandsAt size n history (slice_get (set ks h m) n)) (sym e)
      (subst (λ (o : Option Kernel). StandsAt size h history o) (sym (get_set_same ks h m within)) own)
  | no e ↦ subst (λ (o : Option Kernel). StandsAt size g history o) (sym (get_set_other ks h g m e)) (each g)
] where
  p : Present size h history k
  p = subst (λ (o : Option Kernel). StandsAt size h history o) is (each h)

  own : Present size h history m
  own =
      record {
        same_host = ap (λ (x : HostId). x.0) same.same_host ∙ p.same_host;
        same_size = same.same_size ∙ p.same_size;
        fits = fits history p.fits;
        prompt = prompt_same k m same p.prompt;
      }

-- the directory has taken memory
pub stands_reserved : (size : ℕ) (ks : List Kernel) (d e : Directory) (history : List Event) → IsSame d e → WorldStands size ks d history
    → WorldStands size ks e history
stands_reserved size ks d e history same w =
    record {
      licensed = w.licensed;
      steps = w.steps;
      served = w.served;
      noted = subst (λ (x : List ℕ). DirectoryStands size x e.awaits e.bytes e.line (world_part size history)) (sym same.holds)
          (subst (λ (x : List ℕ). DirectoryStands size d.holds x e.bytes e.line (world_part size history)) (sym same.awaits)
          (subst (λ (x : List ℕ). DirectoryStands size d.holds d.awaits x e.line (world_part size history)) (sym same.bytes)
          (subst (λ (x : List Wanting). DirectoryStands size d.holds d.awaits d.bytes x (world_part size history)) (sym same.line) w.noted)));
      each = w.each;
      few = w.few;
      long = ap (λ (b : List ℕ). length b) same.bytes ∙ w.long;
    }

pub stands_each : (size : ℕ) (ks ls : List Kernel) (d : Directory) (history : List Event) → length ls ≡ length ks
    → (((g : ℕ) → StandsAt size g history (slice_get ks g)) → (g : ℕ) → StandsAt size g history (slice_get ls g)) → WorldStands size ks d history
    → WorldStands size ls d history
stands_each size ks ls d history same each w =
    record { licensed = w.licensed; steps = w.steps; served = w.served; noted = w.noted; each = each w.each; few = omega (arith, w.few); long = w.long }

pub first_items : (ls : List Letter) (l : Letter) → first ls ≡ Some l → ls ≡ l ∷ tail ls
first_items [] l is = absurd (cc)
first_items (x ∷ ls) l is = grind arith

pub same_kernel : (o : Option Kernel) (a b : Kernel) → o ≡ Some a → o ≡ Some b → a ≡ b
same_kernel o a b is also = cc

pub set_places_fewer : (n most : ℕ) (ks : List Kernel) (h : ℕ) (k m : Kernel) → n ≤ most → h < length ks → slice_get ks h ≡ Some k → HasPlaces most ks
    → deque_len m.down ≡ deque_len k.down → deque_capacity m.down ≡ deque_capacity k.down → HasPlaces n (set ks h m)
set_places_fewer n most ks h k m le within is places len cap g x found = elim (ℕ_discrete g h) [
  | yes e ↦
      let here : slice_get (set ks h m) g ≡ Some m = ap (λ (i : ℕ). slice_get (set ks h m) i) e ∙ get_set_same ks h m within in
      let m_is : m ≡ x = same_kernel (slice_get (set ks h m) g) m x here found in
      let more = places h k is in
      let room : deque_len m.down + n ≤ deque_capacity m.down = omega (arith, more, len, cap) in
      subst (λ (y : Kernel). deque_len y.down + n ≤ deque_capacity y.down) m_is room
  | no e ↦ let more = places g x (sym (get_set_other ks h g m e) ∙ found) in omega (arith, more)
]

pub taken_is : (host k : HostId) (q qs : List Message) (m : Message) (old new : List Event) → q ≡ m ∷ qs → k ≡ host
    → new ≡ Taken (Up k (record { 0 = 0 })) m ∷ old → AddsFirst (taken_head (Up host (record { 0 = 0 })) q) old new
taken_is host k q qs m old new is same added =
    subst (λ (ms : List Message). AddsFirst (taken_head (Up host (record { 0 = 0 })) ms) old new) (sym is)
    (added ∙ ap (λ (g : HostId). Taken (Up g (record { 0 = 0 })) m ∷ old) same)
