-- A kernel that begins an access.
use Rattle.std.proofs.Common.{◌≡◌, ◌≢◌, ◌≤◌, ◌+◌, ◌%◌, ◌∙◌, ℕ, List, [], ◌∷◌, Bool, true, false, if◌then◌else◌, Option, Some, None, arith, refl, ap, sym, map}
use Rattle.vm_model.specs.declared.event.Event.{Event}
use Rattle.vm_model.specs.Words.{Act, ActEffect, Begins, Opens}
use Rattle.vm_model.specs.Side.{Side, side, opened}
use Rattle.vm_model.specs.Waiters.{waiters, waiters_after}
use Rattle.vm_model.specs.PagePart.{world_part}
use Rattle.vm_model.specs.Channels.{up_queue, down_queue}
use Rattle.vm_coherence.proofs.Law.{own_effect, own_side}
use Rattle.sms_proto.specs.declared.kernel.Kernel.{Kernel}
use Rattle.sms_proto.specs.declared.kernel.Want.{Want}
use Rattle.sms_proto.specs.declared.letter.Letter.{Letter}
use Rattle.sms_proto.specs.declared.letter.Letter.TheVariants as letter
use Rattle.sms_proto.specs.Letters.{order_message, order_word}
use Rattle.sms_proto.specs.Kernels.{KernelFits, Each, IsProper, kernel_side, waiter_list}
use Rattle.sms_proto.specs.Steps.{begun_event}

abbrev pub begins : ℕ → ℕ → Bool → ℕ → Act
begins size h store value = record { host = h; effect = Begins h store (0 % size) 8 value }

abbrev pub opens : ℕ → ℕ → Act
opens h control = record { host = h; effect = Opens (control + 1) true }

-- the act of beginning, behind that of a new control where there is none
abbrev pub beginning : Bool → ℕ → ℕ → Bool → ℕ → List Act → List Act
beginning true size h store value past = begins size h store value ∷ past
beginning false size h store value past = begins size h store value ∷ opens h (side h past).control ∷ past

pub begun_part : (size h value : ℕ) (store live : Bool) (past : List Event) → (store ≡ false → value ≡ 0) → (side h (world_part size past)).live ≡ live
    → world_part size (begun_event h store value ∷ past) ≡ beginning live size h store value (world_part size past)
begun_part size h value true live past plain is = by_live live is where
  by_live : (b : Bool) → (side h (world_part size past)).live ≡ b
      → world_part size (begun_event h true value ∷ past) ≡ beginning b size h true value (world_part size past)
  by_live true e =
      ap (λ (c : Bool). begins size h true value ∷ (if c then world_part size past else opens h (side h (world_part size past)).control ∷ world_part size past))
      e
  by_live false e =
      ap (λ (c : Bool). begins size h true value ∷ (if c then world_part size past else opens h (side h (world_part size past)).control ∷ world_part size past))
      e
begun_part size h value false live past plain is =
    by_live live is ∙ ap (λ (v : ℕ). beginning live size h false v (world_part size past)) (sym (plain refl)) where
      by_live : (b : Bool) → (side h (world_part size past)).live ≡ b
          → world_part size (begun_event h false value ∷ past) ≡ beginning b size h false 0 (world_part size past)
      by_live true e =
          ap (λ (c : Bool). begins size h false 0 ∷ (if c then world_part size past else opens h (side h (world_part size past)).control ∷ world_part size
          past)) e
      by_live false e =
          ap (λ (c : Bool). begins size h false 0 ∷ (if c then world_part size past else opens h (side h (world_part size past)).control ∷ world_part size
          past)) e

begun_up : (g h value : ℕ) (store : Bool) (past : List Event) → up_queue g 0 (begun_event h store value ∷ past) ≡ up_queue g 0 past
begun_up g h value true past = refl
begun_up g h value false past = refl

begun_down : (g n h value : ℕ) (store : Bool) (past : List Event) → down_queue g 0 n (begun_event h store value ∷ past) ≡ down_queue g 0 n past
begun_down g n h value true past = refl
begun_down g n h value false past = refl

zero_at : (size : ℕ) → 0 % size ≡ 0
zero_at size = omega arith

begun_waits : (size h value : ℕ) (store : Bool) (acts : List Act) → waiters h acts ≡ []
    → waiters h (begins size h store value ∷ acts) ≡ record { task = h; store = store; at = 0; size = 8; value = value } ∷ []
begun_waits size h value store acts none =
    ap (λ (e : ActEffect). waiters_after e (waiters h acts)) (own_effect (begins size h store value))
    ∙ (ap (λ (n : ℕ). record { task = h; store = store; at = n; size = 8; value = value } ∷ waiters h acts) (zero_at size)
    ∙ ap (λ ws. record { task = h; store = store; at = 0; size = 8; value = value } ∷ ws) none)

-- a kernel to which nothing happens but that another access waits
pub fits_same : (old new : List Event) (k : Kernel) (w : Option Want) → kernel_side new k ≡ kernel_side old k
    → waiters k.host.0 (world_part k.size new) ≡ waiter_list k.host.0 w → up_queue k.host.0 0 new ≡ up_queue k.host.0 0 old
    → ((n : ℕ) → down_queue k.host.0 0 n new ≡ down_queue k.host.0 0 n old) → (k.asked ≡ true → w ≢ None) → KernelFits old k
    → KernelFits new (record k { want = w })
fits_same old new k w same waits sent down asked f =
    record {
      control = ap (λ (t : Side). t.control) same ∙ f.control;
      live = ap (λ (t : Side). t.live) same ∙ f.live;
      ready = λ l. ap (λ (t : Side). t.ready) same ∙ f.ready l;
      right = ap (λ (t : Side). t.right) same ∙ f.right;
      lock = λ l. ap (λ (t : Side). t.lock) same ∙ f.lock l;
      bytes = λ l. ap (λ (t : Side). t.bytes) same ∙ f.bytes l;
      dirty = ap (λ (t : Side). t.dirty) same ∙ f.dirty;
      asked = ap (λ (t : Side). t.asked) same ∙ f.asked;
      unlocking = ap (λ (t : Side). t.unlocking) same ∙ f.unlocking;
      step = ap (λ (t : Side). t.step) same ∙ f.step;
      heard = ap (λ (t : Side). t.heard) same ∙ f.heard;
      up = ap (λ (t : Side). t.up) same ∙ f.up;
      down = ap (λ (t : Side). t.down) same ∙ f.down;
      waits = waits;
      sent = sent ∙ f.sent;
      coming = λ l. down k.control ∙ f.coming l;
      later = λ n lt. down n ∙ f.later n lt;
      gone_right = f.gone_right;
      gone_down = f.gone_down;
      gone_asked = f.gone_asked;
      asked_away = f.asked_away;
      asked_waits = asked;
      bounded = f.bounded;
      heard_before = f.heard_before;
      proper = f.proper;
      supplies = f.supplies;
      whole = f.whole;
      front = f.front;
    }

pub fits_begun : (history : List Event) (k : Kernel) (want : Want) → KernelFits history k → k.live ≡ true → k.want ≡ None
    → (want.store ≡ false → want.value ≡ 0) → KernelFits (begun_event k.host.0 want.store want.value ∷ history) (record k { want = Some want })
fits_begun history k want f live idle plain =
    fits_same history (begun_event k.host.0 want.store want.value ∷ history) k (Some want)
    (ap (λ (l : List Act). side k.host.0 l) part ∙ own_side (begins k.size k.host.0 want.store want.value) (world_part k.size history))
    (ap (λ (l : List Act). waiters k.host.0 l) part ∙ begun_waits k.size k.host.0 want.value want.store (world_part k.size history)
    (f.waits ∙ ap (waiter_list k.host.0) idle))
    (begun_up k.host.0 k.host.0 want.value want.store history)
    (λ n. begun_down k.host.0 n k.host.0 want.value want.store history)
    (λ asked none. absurd (cc))
    f where
      part : world_part k.size (begun_event k.host.0 want.store want.value ∷ history) ≡ begins k.size k.host.0 want.store want.value ∷ world_part k.size history
      part = begun_part k.size k.host.0 want.value want.store true history plain (f.live ∙ live)

proper_later : (size m n : ℕ) (ls : List Letter) → m ≤ n → Each (IsProper size m) ls → Each (IsProper size n) ls
proper_later size m n [] le each = tt
proper_later size m n (l ∷ ls) le each = (one l each.0, proper_later size m n ls le each.1) where
  one : (l : Letter) → IsProper size m l → IsProper size n l
  one (letter.Request asker access) p = omega arith
  one (letter.Unlock control) p = tt
  one (letter.Return control keep bytes) p = p
  one (letter.Completed control) p = tt
  one (letter.Terminate control) p = tt

-- a new control of a host that had none
pub fits_anew : (history : List Event) (k : Kernel) (want : Want) (next : ℕ) → KernelFits history k → k.live ≡ false → next ≡ k.control + 1 → k.want ≡ None
    → (want.store ≡ false → want.value ≡ 0) → KernelFits (begun_event k.host.0 want.store want.value ∷ history)
    (record k { control = next; live = true; want = Some want })
fits_anew history k want next f gone is idle plain =
    record {
      control = ap (λ (t : Side). t.control) now ∙ (ap (λ (n : ℕ). n + 1) f.control ∙ sym is);
      live = ap (λ (t : Side). t.live) now;
      ready = λ l. ap (λ (t : Side). t.ready) now;
      right = ap (λ (t : Side). t.right) now ∙ f.right;
      lock = λ l. ap (λ (t : Side). t.lock) now ∙ f.lock l;
      bytes = λ l. ap (λ (t : Side). t.bytes) now ∙ f.bytes l;
      dirty = ap (λ (t : Side). t.dirty) now ∙ f.dirty;
      asked = ap (λ (t : Side). t.asked) now ∙ sym (f.gone_asked gone);
      unlocking = ap (λ (t : Side). t.unlocking) now ∙ f.unlocking;
      step = ap (λ (t : Side). t.step) now ∙ f.step;
      heard = ap (λ (t : Side). t.heard) now ∙ f.heard;
      up = ap (λ (t : Side). t.up) now ∙ f.up;
      down = ap (λ (t : Side). t.down) now ∙ ap (map order_word) (sym (f.gone_down gone));
      waits =
          ap (λ (l : List Act). waiters k.host.0 l) part
          ∙ begun_waits k.size k.host.0 want.value want.store (opens k.host.0 (kernel_side history k).control ∷ world_part k.size history)
          (others_wait ∙ (f.waits ∙ ap (waiter_list k.host.0) idle));
      sent = begun_up k.host.0 k.host.0 want.value want.store history ∙ f.sent;
      coming =
          λ l. begun_down k.host.0 next k.host.0 want.value want.store history ∙ (f.later next (omega arith) ∙ ap (map order_message) (sym (f.gone_down gone)));
      later = λ n lt. begun_down k.host.0 n k.host.0 want.value want.store history ∙ f.later n (omega arith);
      gone_right = λ e. f.gone_right gone;
      gone_down = λ e. f.gone_down gone;
      gone_asked = λ e. f.gone_asked gone;
      asked_away = f.asked_away;
      asked_waits = λ asked none. absurd (cc);
      bounded = f.bounded;
      heard_before = omega (arith, f.heard_before);
      proper = proper_later k.size k.control next k.up.items (omega arith) f.proper;
      supplies = f.supplies;
      whole = f.whole;
      front = f.front;
    } where
      part : world_part k.size (begun_event k.host.0 want.store want.value ∷ history) ≡ begins k.size k.host.0 want.store want.value ∷ opens k.host.0
          (side k.host.0 (world_part k.size history)).control ∷ world_part k.size history
      part = begun_part k.size k.host.0 want.value want.store false history plain (f.live ∙ gone)

      now : side k.host.0 (world_part k.size (begun_event k.host.0 want.store want.value ∷ history)) ≡ opened (kernel_side history k)
          ((kernel_side history k).control + 1) true
      now =
          ap (λ (l : List Act). side k.host.0 l) part ∙ (own_side (begins k.size k.host.0 want.store want.value)
          (opens k.host.0 (kernel_side history k).control ∷ world_part k.size history)
          ∙ own_side (opens k.host.0 (kernel_side history k).control) (world_part k.size history))

      others_wait : waiters k.host.0 (opens k.host.0 (kernel_side history k).control ∷ world_part k.size history) ≡ waiters k.host.0 (world_part k.size history)
      others_wait =
          ap (λ (e : ActEffect). waiters_after e (waiters k.host.0 (world_part k.size history))) (own_effect (opens k.host.0 (kernel_side history k).control))
