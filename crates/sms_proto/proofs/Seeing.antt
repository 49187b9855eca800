-- What a kernel's steps add, in the history's own words.
use Rattle.std.proofs.Common.{◌≡◌, ◌<◌, ◌==◌, ◌∙◌, ℕ, List, [], ◌∷◌, ◌++◌, Bool, true, false, if◌then◌else◌, Option, Some, None, map, refl, ap, sym, subst}
use Rattle.std.proofs.Common.{arith, length}
use Rattle.std.specs.Prelude.{slice_get}
use Rattle.std.proofs.Math.ListN.{set}
use Rattle.std.proofs.lemmas.Bool.Decides.{nat_tests}
use Rattle.vm_base.specs.declared.ids.HostId.{HostId}
use Rattle.vm_model.specs.declared.message.Channel.TheVariants.{Up, Down}
use Rattle.vm_model.specs.declared.message.Message.{Message}
use Rattle.vm_model.specs.declared.message.Message.TheVariants as message
use Rattle.vm_model.specs.declared.event.Event.{Event}
use Rattle.vm_model.specs.declared.event.Event.TheVariants as event
use Rattle.vm_model.specs.Side.{Side, side}
use Rattle.vm_model.specs.Waiters.{Waiter, waiters}
use Rattle.vm_model.specs.Server.{first}
use Rattle.vm_model.specs.PagePart.{world_part}
use Rattle.vm_model.specs.Channels.{down_queue}
use Rattle.vm_model.specs.PageLicences.{ActsLicensed}
use Rattle.sms_pages.specs.Directory.{Directory}
use Rattle.sms_proto.specs.declared.kernel.Kernel.{Kernel}
use Rattle.sms_proto.specs.declared.kernel.Want.{Want}
use Rattle.sms_proto.specs.declared.letter.Order.{Order}
use Rattle.sms_proto.specs.Adds.{HostDoes}
use Rattle.sms_proto.specs.Letters.{order_message, taken_first}
use Rattle.sms_proto.specs.Kernels.{KernelFits, IsPrompt, kernel_side, waiter_list, order_head, evicted_by, kernel_leaves, given_up, idle_head, where_idle}
use Rattle.sms_proto.specs.Steps.{StepEvents, begun_event, put_away_event, when_idle, taken_head, down_head, gives_up, left}
use Rattle.sms_proto.specs.Worlds.{Moved, Present, StandsAt, WorldStands}
use Rattle.sms_proto.proofs.Standing.{stands_host}

pub present_of : (size h : ℕ) (ks : List Kernel) (d : Directory) (old : List Event) (k : Kernel) → WorldStands size ks d old → slice_get ks h ≡ Some k
    → Present size h old k
present_of size h ks d old k w is = subst (λ (o : Option Kernel). StandsAt size h old o) is (w.each h)

pub stage_stands : (size : ℕ) (ks : List Kernel) (d : Directory) (old new : List Event) (h : ℕ) (k m : Kernel) → h < length ks → slice_get ks h ≡ Some k
    → WorldStands size ks d old → KernelFits new m → IsPrompt m → ActsLicensed m.size (world_part m.size new) → m.host ≡ k.host → m.size ≡ k.size
    → Moved k.size k.host.0 old new → WorldStands size (set ks h m) d new
stage_stands size ks d old new h k m within is w fits prompt licensed host pages moved =
    stands_host size ks d old new h m within w
    (record { same_host = ap (λ (g : HostId). g.0) host ∙ p.same_host; same_size = pages ∙ p.same_size; fits = fits; prompt = prompt })
    (subst (λ (n : ℕ). ActsLicensed n (world_part n new)) (pages ∙ p.same_size) licensed)
    (subst (λ (n : ℕ). Moved n h old new) p.same_size (subst (λ (n : ℕ). Moved k.size n old new) p.same_host moved)) where
      p : Present size h old k
      p = present_of size h ks d old k w is

-- the words of the kernel are those of the history

idle_when : (h : ℕ) (w : Option Want) (e : Event) → idle_head w e ≡ when_idle (waiter_list h w) (Some e) None
idle_when h None e = refl
idle_when h (Some want) e = refl

idle_where : {A : Type 0} (h : ℕ) (w : Option Want) (x y : A) → where_idle w x y ≡ when_idle (waiter_list h w) x y
idle_where h None x y = refl
idle_where h (Some want) x y = refl

pub saw_access : (size : ℕ) (host : HostId) (old new : List Event) (k : Kernel) (store : Bool) (value : ℕ) → Present size host.0 old k
    → StepEvents (HostDoes k.host.0) (idle_head k.want (begun_event k.host.0 store value)) old new
    → StepEvents (HostDoes host.0) (when_idle (waiters host.0 (world_part size old)) (Some (begun_event host.0 store value)) None) old new
saw_access size host old new k store value p goes =
    subst (λ (n : ℕ). StepEvents (HostDoes host.0) (when_idle (waiters host.0 (world_part n old)) (Some (begun_event host.0 store value)) None) old new)
    p.same_size
    (subst (λ (h : ℕ). StepEvents (HostDoes h) (when_idle (waiters h (world_part k.size old)) (Some (begun_event h store value)) None) old new) p.same_host
    (subst (λ (ws : List Waiter). StepEvents (HostDoes k.host.0) (when_idle ws (Some (begun_event k.host.0 store value)) None) old new) (sym p.fits.waits)
    (subst (λ (o : Option Event). StepEvents (HostDoes k.host.0) o old new) (idle_when k.host.0 k.want (begun_event k.host.0 store value)) goes)))

given_by : (k : Kernel) (s : Side) → s.right ≡ k.right → s.control ≡ k.control → s.dirty ≡ k.dirty → (0 < k.right → s.bytes ≡ k.bytes)
    → given_up k ≡ gives_up k.host.0 s
given_by k s right control dirty bytes = by_right (0 == k.right) refl where
  here : (n : ℕ) → (0 == n) ≡ false → 0 < n
  here n e = grind (arith, nat_tests)

  by_right : (b : Bool) → (0 == k.right) ≡ b → given_up k ≡ gives_up k.host.0 s
  by_right true e =
      ap (λ (c : Bool). if c then [] else put_away_event k.host.0 k.control k.dirty k.bytes ∷ []) e
      ∙ sym (ap (λ (n : ℕ). if 0 == n then [] else put_away_event k.host.0 s.control s.dirty s.bytes ∷ []) right
      ∙ ap (λ (c : Bool). if c then [] else put_away_event k.host.0 s.control s.dirty s.bytes ∷ []) e)
  by_right false e =
      ap (λ (c : Bool). if c then [] else put_away_event k.host.0 k.control k.dirty k.bytes ∷ []) e
      ∙ (sym (ap (λ (n : ℕ). put_away_event k.host.0 n s.dirty s.bytes ∷ []) control
      ∙ (ap (λ (c : Bool). put_away_event k.host.0 k.control c s.bytes ∷ []) dirty
      ∙ ap (λ (l : List ℕ). put_away_event k.host.0 k.control k.dirty l ∷ []) (bytes (here k.right e))))
      ∙ sym (ap (λ (n : ℕ). if 0 == n then [] else put_away_event k.host.0 s.control s.dirty s.bytes ∷ []) right
      ∙ ap (λ (c : Bool). if c then [] else put_away_event k.host.0 s.control s.dirty s.bytes ∷ []) e))

pub saw_evicted : (size : ℕ) (h : ℕ) (old new : List Event) (k : Kernel) → Present size h old k → new ≡ evicted_by k old
    → new ≡ when_idle (waiters h (world_part size old)) (gives_up h (side h (world_part size old)) ++ old) old
saw_evicted size h old new k p is =
    subst (λ (n : ℕ). new ≡ when_idle (waiters h (world_part n old)) (gives_up h (side h (world_part n old)) ++ old) old) p.same_size
    (subst (λ (g : ℕ). new ≡ when_idle (waiters g (world_part k.size old)) (gives_up g (side g (world_part k.size old)) ++ old) old) p.same_host
    (is ∙ (idle_where k.host.0 k.want (given_up k ++ old) old
    ∙ (ap (λ (ws : List Waiter). when_idle ws (given_up k ++ old) old) (sym p.fits.waits)
    ∙ ap (λ (l : List Event). when_idle (waiters k.host.0 (world_part k.size old)) (l ++ old) old)
    (given_by k (kernel_side old k) p.fits.right p.fits.control p.fits.dirty p.fits.bytes)))))

abbrev ends : HostId → List Event → ℕ → List Event → List Event
ends host old n l = event.Sent (Up host (record { 0 = 0 })) (message.Terminate n) ∷ l ++ old

pub saw_left : (size : ℕ) (h : ℕ) (old new : List Event) (k : Kernel) → Present size h old k → new ≡ kernel_leaves k old
    → new ≡ left h (side h (world_part size old)) (waiters h (world_part size old)) old
saw_left size h old new k p is =
    subst (λ (n : ℕ). new ≡ left h (side h (world_part n old)) (waiters h (world_part n old)) old) p.same_size
    (subst (λ (g : ℕ). new ≡ left g (side g (world_part k.size old)) (waiters g (world_part k.size old)) old) p.same_host
    (is ∙ (ap (λ (l : List Event). if k.live then l else old)
    (idle_where k.host.0 k.want (ends k.host old k.control (given_up k)) old
    ∙ (ap (λ (ws : List Waiter). when_idle ws (ends k.host old k.control (given_up k)) old) (sym p.fits.waits)
    ∙ (ap (λ (l : List Event). when_idle (waiters k.host.0 (world_part k.size old)) (ends k.host old k.control l) old)
    (given_by k (kernel_side old k) p.fits.right p.fits.control p.fits.dirty p.fits.bytes)
    ∙ ap (λ (n : ℕ). when_idle (waiters k.host.0 (world_part k.size old)) (ends k.host old n (gives_up k.host.0 (kernel_side old k))) old)
    (sym p.fits.control))))
    ∙ ap (λ (b : Bool). if b then when_idle (waiters k.host.0 (world_part k.size old))
    (ends k.host old (kernel_side old k).control (gives_up k.host.0 (kernel_side old k))) old else old) (sym p.fits.live))))

-- the oldest order is the oldest message
pub saw_order : (size : ℕ) (host : HostId) (old new : List Event) (k : Kernel) → Present size host.0 old k
    → StepEvents (HostDoes k.host.0) (order_head k) old new
    → StepEvents (HostDoes host.0) (down_head host (side host.0 (world_part size old)).live (side host.0 (world_part size old)).control
    (down_queue host.0 0 (side host.0 (world_part size old)).control old)) old new
saw_order size host old new k p goes =
    subst (λ (n : ℕ). StepEvents (HostDoes host.0) (down_head host (side host.0 (world_part n old)).live (side host.0 (world_part n old)).control
    (down_queue host.0 0 (side host.0 (world_part n old)).control old)) old new) p.same_size
    (subst (λ (g : HostId). StepEvents (HostDoes g.0) (down_head g (side g.0 (world_part k.size old)).live (side g.0 (world_part k.size old)).control
    (down_queue g.0 0 (side g.0 (world_part k.size old)).control old)) old new) (ap (λ (n : ℕ). record { 0 = n }) p.same_host)
    (subst (λ (o : Option Event). StepEvents (HostDoes k.host.0) o old new) (heads ∙ turned) goes)) where
      first_taken : (os : List Order) → taken_first k.host k.control (first os) ≡ taken_head (Down k.host (record { 0 = 0 }) k.control) (map order_message os)
      first_taken [] = refl
      first_taken (o ∷ os) = refl

      by_live : (b : Bool) → k.live ≡ b → order_head k ≡ down_head k.host k.live k.control (down_queue k.host.0 0 k.control old)
      by_live true e =
          ap (λ (c : Bool). if c then taken_first k.host k.control (first k.down.items) else None) e
          ∙ (first_taken k.down.items ∙ (ap (λ (q : List Message). taken_head (Down k.host (record { 0 = 0 }) k.control) q) (sym (p.fits.coming e))
          ∙ ap (λ (c : Bool). down_head k.host c k.control (down_queue k.host.0 0 k.control old)) (sym e)))
      by_live false e =
          ap (λ (c : Bool). if c then taken_first k.host k.control (first k.down.items) else None) e
          ∙ ap (λ (c : Bool). down_head k.host c k.control (down_queue k.host.0 0 k.control old)) (sym e)

      heads : order_head k ≡ down_head k.host k.live k.control (down_queue k.host.0 0 k.control old)
      heads = by_live k.live refl

      turned : down_head k.host k.live k.control (down_queue k.host.0 0 k.control old) ≡ down_head k.host (kernel_side old k).live (kernel_side old k).control
          (down_queue k.host.0 0 (kernel_side old k).control old)
      turned =
          ap (λ (b : Bool). down_head k.host b k.control (down_queue k.host.0 0 k.control old)) (sym p.fits.live)
          ∙ ap (λ (n : ℕ). down_head k.host (kernel_side old k).live n (down_queue k.host.0 0 n old)) (sym p.fits.control)
