-- A kernel whose messages move, and nothing else.
use Rattle.std.proofs.Common.{◌≡◌, ◌<◌, ◌≤◌, ◌==◌, ◌&&◌, ◌∙◌, ℕ, List, [], ◌∷◌, ◌++◌, Bool, true, false, if◌then◌else◌, map, arith, refl, ap, sym, subst}
use Rattle.std.proofs.lemmas.Bool.Decides.{nat_tests}
use Rattle.vm_base.specs.declared.ids.HostId.{HostId}
use Rattle.vm_model.specs.declared.message.Message.{Message}
use Rattle.vm_model.specs.declared.event.Event.{Event}
use Rattle.vm_model.specs.Words.{Act, ActEffect, DownWord, TakenUp, SentDown}
use Rattle.vm_model.specs.Side.{Side, side, rest, side_taken_up, side_sent_down, is_open_to}
use Rattle.vm_model.specs.Waiters.{waiters, waiters_after}
use Rattle.vm_model.specs.PagePart.{world_part}
use Rattle.vm_model.specs.Channels.{up_queue, down_queue}
use Rattle.vm_coherence.proofs.Law.{own_effect, own_side}
use Rattle.sms_proto.specs.declared.kernel.Kernel.{Kernel}
use Rattle.sms_proto.specs.declared.letter.Letter.{Letter}
use Rattle.sms_proto.specs.declared.letter.Letter.TheVariants as letter
use Rattle.sms_proto.specs.declared.letter.Order.{Order}
use Rattle.sms_proto.specs.declared.letter.Order.TheVariants as order
use Rattle.sms_proto.specs.Letters.{letter_message, letter_word, order_message, order_word, letter_taken, order_sent, heard_by}
use Rattle.sms_proto.specs.Kernels.{KernelFits, Each, IsProper, IsWholeOrder, kernel_side}
use Rattle.sms_proto.proofs.Queues.{map_end, each_end}

record SameHost (s t : Side) : Type 0 where
  control : t.control ≡ s.control
  live : t.live ≡ s.live
  ready : t.ready ≡ s.ready
  right : t.right ≡ s.right
  lock : t.lock ≡ s.lock
  bytes : t.bytes ≡ s.bytes
  dirty : t.dirty ≡ s.dirty
  asked : t.asked ≡ s.asked
  unlocking : t.unlocking ≡ s.unlocking

abbrev pub mailed : Kernel → Kernel → Kernel
mailed k m = record k { up = m.up; down = m.down; heard = m.heard }

record Mailed (old new : List Event) (k m : Kernel) : Type 0 where
  same : SameHost (kernel_side old k) (kernel_side new k)
  step : (kernel_side new k).step ≡ 0
  up : (kernel_side new k).up ≡ map letter_word m.up.items
  down : (kernel_side new k).down ≡ map order_word m.down.items
  heard : (kernel_side new k).heard ≡ m.heard
  waits : waiters k.host.0 (world_part k.size new) ≡ waiters k.host.0 (world_part k.size old)
  sent : up_queue k.host.0 0 new ≡ map letter_message m.up.items
  coming : k.live ≡ true → down_queue k.host.0 0 k.control new ≡ map order_message m.down.items
  later : (n : ℕ) → k.control < n → down_queue k.host.0 0 n new ≡ down_queue k.host.0 0 n old
  gone_down : k.live ≡ false → m.down.items ≡ []
  heard_before : m.heard ≤ k.control
  proper : Each (IsProper k.size k.control) m.up.items
  supplies : Each (IsWholeOrder k.size) m.down.items

fits_mailed : (old new : List Event) (k m : Kernel) → Mailed old new k m → KernelFits old k → KernelFits new (mailed k m)
fits_mailed old new k m n f =
    record {
      control = n.same.control ∙ f.control;
      live = n.same.live ∙ f.live;
      ready = λ l. n.same.ready ∙ f.ready l;
      right = n.same.right ∙ f.right;
      lock = λ l. n.same.lock ∙ f.lock l;
      bytes = λ l. n.same.bytes ∙ f.bytes l;
      dirty = n.same.dirty ∙ f.dirty;
      asked = n.same.asked ∙ f.asked;
      unlocking = n.same.unlocking ∙ f.unlocking;
      step = n.step;
      heard = n.heard;
      up = n.up;
      down = n.down;
      waits = n.waits ∙ f.waits;
      sent = n.sent;
      coming = n.coming;
      later = λ i lt. n.later i lt ∙ f.later i lt;
      gone_right = f.gone_right;
      gone_down = n.gone_down;
      gone_asked = f.gone_asked;
      asked_away = f.asked_away;
      asked_waits = f.asked_waits;
      bounded = f.bounded;
      heard_before = n.heard_before;
      proper = n.proper;
      supplies = n.supplies;
      whole = f.whole;
      front = f.front;
    }

-- the server takes a letter

pub taken_part : (size : ℕ) (host : HostId) (l : Letter) (past : List Event)
    → world_part size (letter_taken host l ∷ past) ≡ record { host = host.0; effect = TakenUp (letter_word l) } ∷ world_part size past
taken_part size host (letter.Request control access) past = refl
taken_part size host (letter.Unlock control) past = refl
taken_part size host (letter.Return control keep bytes) past = refl
taken_part size host (letter.Completed control) past = refl
taken_part size host (letter.Terminate control) past = refl

heard_same : (s : Side) (l : Letter) → SameHost s (side_taken_up s (letter_word l))
heard_same s (letter.Request asker access) =
    record { control = refl; live = refl; ready = refl; right = refl; lock = refl; bytes = refl; dirty = refl; asked = refl; unlocking = refl }
heard_same s (letter.Unlock control) =
    record { control = refl; live = refl; ready = refl; right = refl; lock = refl; bytes = refl; dirty = refl; asked = refl; unlocking = refl }
heard_same s (letter.Return control keep bytes) =
    record { control = refl; live = refl; ready = refl; right = refl; lock = refl; bytes = refl; dirty = refl; asked = refl; unlocking = refl }
heard_same s (letter.Completed control) =
    record { control = refl; live = refl; ready = refl; right = refl; lock = refl; bytes = refl; dirty = refl; asked = refl; unlocking = refl }
heard_same s (letter.Terminate control) =
    record { control = refl; live = refl; ready = refl; right = refl; lock = refl; bytes = refl; dirty = refl; asked = refl; unlocking = refl }

heard_step : (s : Side) (l : Letter) → (side_taken_up s (letter_word l)).step ≡ 0
heard_step s (letter.Request asker access) = refl
heard_step s (letter.Unlock control) = refl
heard_step s (letter.Return control keep bytes) = refl
heard_step s (letter.Completed control) = refl
heard_step s (letter.Terminate control) = refl

heard_rest : (s : Side) (l : Letter) → (side_taken_up s (letter_word l)).up ≡ rest s.up
heard_rest s (letter.Request asker access) = refl
heard_rest s (letter.Unlock control) = refl
heard_rest s (letter.Return control keep bytes) = refl
heard_rest s (letter.Completed control) = refl
heard_rest s (letter.Terminate control) = refl

heard_down : (s : Side) (l : Letter) → (side_taken_up s (letter_word l)).down ≡ s.down
heard_down s (letter.Request asker access) = refl
heard_down s (letter.Unlock control) = refl
heard_down s (letter.Return control keep bytes) = refl
heard_down s (letter.Completed control) = refl
heard_down s (letter.Terminate control) = refl

heard_heard : (s : Side) (l : Letter) → (side_taken_up s (letter_word l)).heard ≡ heard_by s.heard l
heard_heard s (letter.Request asker access) = refl
heard_heard s (letter.Unlock control) = refl
heard_heard s (letter.Return control keep bytes) = refl
heard_heard s (letter.Completed control) = refl
heard_heard s (letter.Terminate control) = refl

heard_most : (size control heard : ℕ) (l : Letter) → IsProper size control l → heard ≤ control → heard_by heard l ≤ control
heard_most size control heard (letter.Request asker access) p le = p
heard_most size control heard (letter.Unlock c) p le = le
heard_most size control heard (letter.Return c keep bytes) p le = le
heard_most size control heard (letter.Completed c) p le = le
heard_most size control heard (letter.Terminate c) p le = le

mine : {A : Type 0} (a : ℕ) (x y : A) → (if (a == a) && true then x else y) ≡ x
mine a x y = grind (arith, nat_tests)

same_side : (s t : Side) (u : Side) → t ≡ u → SameHost s u → SameHost s t
same_side s t u is same = subst (λ (v : Side). SameHost s v) (sym is) same

pub fits_heard : (history : List Event) (k m : Kernel) (l : Letter) → KernelFits history k → k.up.items ≡ l ∷ m.up.items → m.down.items ≡ k.down.items
    → m.heard ≡ heard_by k.heard l → KernelFits (letter_taken k.host l ∷ history) (mailed k m)
fits_heard history k m l f first down heard =
    fits_mailed history (letter_taken k.host l ∷ history) k m
    (record {
      same =
          same_side (kernel_side history k) (kernel_side (letter_taken k.host l ∷ history) k) (side_taken_up (kernel_side history k) (letter_word l)) now
          (heard_same (kernel_side history k) l);
      step = ap (λ (t : Side). t.step) now ∙ heard_step (kernel_side history k) l;
      up = ap (λ (t : Side). t.up) now ∙ (heard_rest (kernel_side history k) l ∙ (ap rest f.up ∙ ap (λ (ls : List Letter). rest (map letter_word ls)) first));
      down = ap (λ (t : Side). t.down) now ∙ (heard_down (kernel_side history k) l ∙ (f.down ∙ ap (map order_word) (sym down)));
      heard = ap (λ (t : Side). t.heard) now ∙ (heard_heard (kernel_side history k) l ∙ (ap (λ (n : ℕ). heard_by n l) f.heard ∙ sym heard));
      waits =
          ap (λ (a : List Act). waiters k.host.0 a) (taken_part k.size k.host l history)
          ∙ ap (λ (e : ActEffect). waiters_after e (waiters k.host.0 (world_part k.size history)))
          (own_effect (record { host = k.host.0; effect = TakenUp (letter_word l) }));
      sent =
          mine k.host.0 (rest (up_queue k.host.0 0 history)) (up_queue k.host.0 0 history)
          ∙ (ap rest f.sent ∙ ap (λ (ls : List Letter). rest (map letter_message ls)) first);
      coming = λ live. f.coming live ∙ ap (map order_message) (sym down);
      later = λ n lt. refl;
      gone_down = λ gone. down ∙ f.gone_down gone;
      heard_before = subst (λ (n : ℕ). n ≤ k.control) (sym heard) (heard_most k.size k.control k.heard l each.0 f.heard_before);
      proper = each.1;
      supplies = subst (λ (os : List Order). Each (IsWholeOrder k.size) os) (sym down) f.supplies;
    })
    f where
      each : Each (IsProper k.size k.control) (l ∷ m.up.items)
      each = subst (λ (ls : List Letter). Each (IsProper k.size k.control) ls) first f.proper

      now : kernel_side (letter_taken k.host l ∷ history) k ≡ side_taken_up (kernel_side history k) (letter_word l)
      now =
          ap (λ (a : List Act). side k.host.0 a) (taken_part k.size k.host l history)
          ∙ own_side (record { host = k.host.0; effect = TakenUp (letter_word l) }) (world_part k.size history)

-- the server sends an order

pub sent_part : (size : ℕ) (host : HostId) (control : ℕ) (o : Order) (past : List Event)
    → world_part size (order_sent host control o ∷ past) ≡ record { host = host.0; effect = SentDown control (order_word o) } ∷ world_part size past
sent_part size host control (order.Supply writes bytes) past = refl
sent_part size host control order.Flush past = refl
sent_part size host control order.Clean past = refl
sent_part size host control order.Unlock past = refl

sent_same : (s : Side) (control : ℕ) (o : Order) → SameHost s (side_sent_down s control (order_word o))
sent_same s control (order.Supply writes bytes) =
    record { control = refl; live = refl; ready = refl; right = refl; lock = refl; bytes = refl; dirty = refl; asked = refl; unlocking = refl }
sent_same s control order.Flush =
    record { control = refl; live = refl; ready = refl; right = refl; lock = refl; bytes = refl; dirty = refl; asked = refl; unlocking = refl }
sent_same s control order.Clean =
    record { control = refl; live = refl; ready = refl; right = refl; lock = refl; bytes = refl; dirty = refl; asked = refl; unlocking = refl }
sent_same s control order.Unlock =
    record { control = refl; live = refl; ready = refl; right = refl; lock = refl; bytes = refl; dirty = refl; asked = refl; unlocking = refl }

record SameServer (s t : Side) : Type 0 where
  step : t.step ≡ s.step
  up : t.up ≡ s.up
  heard : t.heard ≡ s.heard

sent_server : (s : Side) (control : ℕ) (o : Order) → SameServer s (side_sent_down s control (order_word o))
sent_server s control (order.Supply writes bytes) = record { step = refl; up = refl; heard = refl }
sent_server s control order.Flush = record { step = refl; up = refl; heard = refl }
sent_server s control order.Clean = record { step = refl; up = refl; heard = refl }
sent_server s control order.Unlock = record { step = refl; up = refl; heard = refl }

sent_queue : (s : Side) (control : ℕ) (o : Order) → (side_sent_down s control (order_word o)).down ≡ (if is_open_to s control then s.down ++ order_word o ∷
    [] else s.down)
sent_queue s control (order.Supply writes bytes) = refl
sent_queue s control order.Flush = refl
sent_queue s control order.Clean = refl
sent_queue s control order.Unlock = refl

-- where it goes: to the live control, or nowhere
abbrev pub posted : Bool → List Order → Order → List Order
posted true os o = os ++ o ∷ []
posted false os o = os

posted_words : (b : Bool) (os : List Order) (o : Order)
    → (if b then map order_word os ++ order_word o ∷ [] else map order_word os) ≡ map order_word (posted b os o)
posted_words true os o = sym (map_end order_word os o)
posted_words false os o = refl

posted_whole : (size : ℕ) (b : Bool) (os : List Order) (o : Order) → Each (IsWholeOrder size) os → IsWholeOrder size o
    → Each (IsWholeOrder size) (posted b os o)
posted_whole size true os o each own = each_end (IsWholeOrder size) os o each own
posted_whole size false os o each own = each

posted_queue : (h control heard : ℕ) (live : Bool) (q : List Message) (os : List Order) (o : Order) → live ≡ true → q ≡ map order_message os
    → (if (h == h) && (true && heard == control) then q ++ order_message o ∷ [] else q) ≡ map order_message (posted (live && control == heard) os o)
posted_queue h control heard live q os o is same = by_control (control == heard) refl where
  by_control : (b : Bool) → (control == heard) ≡ b → (if (h == h) && (true && heard == control) then q ++ order_message o ∷ [] else q) ≡ map order_message
      (posted (live && control == heard) os o)
  by_control true e = grind (arith, nat_tests, map_end order_message os o)
  by_control false e = grind (arith, nat_tests)

posted_gone : (live : Bool) (b : Bool) (os : List Order) (o : Order) → live ≡ false → os ≡ [] → posted (live && b) os o ≡ []
posted_gone true b os o gone none = absurd (cc)
posted_gone false b os o gone none = none

posted_later : (h heard n : ℕ) (q r : List Message) → heard < n → (if (h == h) && (true && heard == n) then r else q) ≡ q
posted_later h heard n q r lt = grind (arith, nat_tests)

pub fits_posted : (history : List Event) (k m : Kernel) (o : Order) → KernelFits history k → m.up.items ≡ k.up.items
    → m.down.items ≡ posted (k.live && k.control == k.heard) k.down.items o → m.heard ≡ k.heard → IsWholeOrder k.size o
    → KernelFits (order_sent k.host k.heard o ∷ history) (mailed k m)
fits_posted history k m o f up down heard whole =
    fits_mailed history (order_sent k.host k.heard o ∷ history) k m
    (record {
      same =
          same_side (kernel_side history k) (kernel_side (order_sent k.host k.heard o ∷ history) k)
          (side_sent_down (kernel_side history k) k.heard (order_word o)) now (sent_same (kernel_side history k) k.heard o);
      step = ap (λ (t : Side). t.step) now ∙ ((sent_server (kernel_side history k) k.heard o).step ∙ f.step);
      up = ap (λ (t : Side). t.up) now ∙ ((sent_server (kernel_side history k) k.heard o).up ∙ (f.up ∙ ap (map letter_word) (sym up)));
      down =
          ap (λ (t : Side). t.down) now ∙ (sent_queue (kernel_side history k) k.heard o
          ∙ (ap (λ (b : Bool). if b && (kernel_side history k).control == k.heard then (kernel_side history k).down ++ order_word o ∷ [] else
          (kernel_side history k).down) f.live ∙ (ap (λ (n : ℕ). if k.live && n == k.heard then (kernel_side history k).down ++ order_word o ∷ [] else
          (kernel_side history k).down) f.control ∙ (ap (λ (ws : List DownWord). if k.live && k.control == k.heard then ws ++ order_word o ∷ [] else ws) f.down
          ∙ (posted_words (k.live && k.control == k.heard) k.down.items o ∙ ap (map order_word) (sym down))))));
      heard = ap (λ (t : Side). t.heard) now ∙ ((sent_server (kernel_side history k) k.heard o).heard ∙ (f.heard ∙ sym heard));
      waits =
          ap (λ (a : List Act). waiters k.host.0 a) (sent_part k.size k.host k.heard o history)
          ∙ ap (λ (e : ActEffect). waiters_after e (waiters k.host.0 (world_part k.size history)))
          (own_effect (record { host = k.host.0; effect = SentDown k.heard (order_word o) }));
      sent = f.sent ∙ ap (map letter_message) (sym up);
      coming =
          λ live. posted_queue k.host.0 k.control k.heard k.live (down_queue k.host.0 0 k.control history) k.down.items o live (f.coming live)
          ∙ ap (map order_message) (sym down);
      later = λ n lt. posted_later k.host.0 k.heard n (down_queue k.host.0 0 n history) _ (omega (arith, f.heard_before));
      gone_down = λ gone. down ∙ posted_gone k.live (k.control == k.heard) k.down.items o gone (f.gone_down gone);
      heard_before = subst (λ (n : ℕ). n ≤ k.control) (sym heard) f.heard_before;
      proper = subst (λ (ls : List Letter). Each (IsProper k.size k.control) ls) (sym up) f.proper;
      supplies =
          subst (λ (os : List Order). Each (IsWholeOrder k.size) os) (sym down) (posted_whole k.size (k.live && k.control == k.heard) k.down.items o f.supplies
          whole);
    })
    f where
      now : kernel_side (order_sent k.host k.heard o ∷ history) k ≡ side_sent_down (kernel_side history k) k.heard (order_word o)
      now =
          ap (λ (a : List Act). side k.host.0 a) (sent_part k.size k.host k.heard o history)
          ∙ own_side (record { host = k.host.0; effect = SentDown k.heard (order_word o) }) (world_part k.size history)
