-- What the steps of a kernel add, from what their parts add.
use Rattle.std.proofs.Common.{◌≡◌, ◌≢◌, ◌==◌, ◌∙◌, ℕ, List, [], ◌∷◌, ◌++◌, Bool, true, false, if◌then◌else◌, Option, Some, None, refl, ap, sym, subst}
use Rattle.vm_base.specs.declared.ids.HostId.{HostId}
use Rattle.vm_model.specs.declared.message.Channel.TheVariants.{Up}
use Rattle.vm_model.specs.declared.message.Message.TheVariants as message
use Rattle.vm_model.specs.declared.event.Event.{Event}
use Rattle.vm_model.specs.declared.event.Event.TheVariants as event
use Rattle.vm_model.specs.Server.{first}
use Rattle.sms_proto.specs.declared.kernel.Kernel.{Kernel}
use Rattle.sms_proto.specs.declared.kernel.Want.{Want}
use Rattle.sms_proto.specs.declared.letter.Order.{Order}
use Rattle.sms_proto.specs.Adds.{Adds, Same, More, HostDoes}
use Rattle.sms_proto.specs.Letters.{taken_first}
use Rattle.sms_proto.specs.Kernels.{given_up, idle_head}
use Rattle.sms_proto.specs.Steps.{StepEvents, begun_event, put_away_event}
use Rattle.sms_proto.specs.Worlds.{Moved}
use Rattle.sms_proto.proofs.Adding.{added, adds_more}
use Rattle.sms_proto.proofs.Hosts.{IsHead, moved_none, moved_head, moved_adds}

goes_moved : (size h : ℕ) (o : Option Event) (old new : List Event) → ((e : Event) → o ≡ Some e → IsHead h e) → StepEvents (HostDoes h) o old new
    → Moved size h old new
goes_moved size h None old new head goes = subst (λ (l : List Event). Moved size h old l) (sym goes) (moved_none size h old)
goes_moved size h (Some e) old new head goes = moved_adds size h old (e ∷ old) new goes (moved_head size h e old (head e refl))

-- beginning an access

begun_head : (h : ℕ) (store : Bool) (value : ℕ) → IsHead h (begun_event h store value)
begun_head h true value = refl
begun_head h false value = refl

pub begun_adds : (h p s : HostId) (store : Bool) (value : ℕ) (old room begun new : List Event) → p ≡ h → s ≡ p → room ≡ old
    → begun ≡ begun_event p.0 store value ∷ room → Adds (HostDoes s.0) begun new → Adds (HostDoes h.0) (begun_event h.0 store value ∷ old) new
begun_adds h p s store value old room begun new same later kept is adds =
    subst (λ (b : List Event). Adds (HostDoes h.0) b new)
    (is ∙ (ap (λ (g : HostId). begun_event g.0 store value ∷ room) same ∙ ap (λ (l : List Event). begun_event h.0 store value ∷ l) kept))
    (subst (λ (g : HostId). Adds (HostDoes g.0) begun new) (later ∙ same) adds)

pub begun_moved : (size : ℕ) (h : HostId) (store : Bool) (value : ℕ) (old new : List Event) → Adds (HostDoes h.0) (begun_event h.0 store value ∷ old) new
    → Moved size h.0 old new
begun_moved size h store value old new adds =
    moved_adds size h.0 old (begun_event h.0 store value ∷ old) new adds (moved_head size h.0 (begun_event h.0 store value) old (begun_head h.0 store value))

pub begun_goes : (h : HostId) (store : Bool) (value : ℕ) (want : Option Want) (old new : List Event) → want ≡ None
    → Adds (HostDoes h.0) (begun_event h.0 store value ∷ old) new → StepEvents (HostDoes h.0) (idle_head want (begun_event h.0 store value)) old new
begun_goes h store value want old new none adds =
    subst (λ (w : Option Want). StepEvents (HostDoes h.0) (idle_head w (begun_event h.0 store value)) old new) (sym none) adds

-- taking an order

more_goes : (host : HostId) (control : ℕ) (o : Option Order) (old middle new : List Event) → o ≢ None
    → StepEvents (HostDoes host.0) (taken_first host control o) old middle → Adds (HostDoes host.0) middle new
    → StepEvents (HostDoes host.0) (taken_first host control o) old new
more_goes host control None old middle new some goes adds = absurd (some refl)
more_goes host control (Some o) old middle new some goes adds = adds_more (HostDoes host.0) _ middle new adds goes

pub order_goes : (h p t : HostId) (c d : ℕ) (os ps : List Order) (live : Bool) (old room middle new : List Event) → p ≡ h → t ≡ p → d ≡ c → ps ≡ os → room ≡ old
    → live ≡ true → first os ≢ None → StepEvents (HostDoes p.0) (taken_first p d (first ps)) room middle → Adds (HostDoes t.0) middle new
    → StepEvents (HostDoes h.0) (if live then taken_first h c (first os) else None) old new
order_goes h p t c d os ps live old room middle new same later control orders kept lives some goes adds =
    subst (λ (b : Bool). StepEvents (HostDoes h.0) (if b then taken_first h c (first os) else None) old new) (sym lives)
    (more_goes h c (first os) old middle new some
    (subst (λ (l : List Event). StepEvents (HostDoes h.0) (taken_first h c (first os)) l middle) kept
    (subst (λ (q : List Order). StepEvents (HostDoes h.0) (taken_first h c (first q)) room middle) orders
    (subst (λ (n : ℕ). StepEvents (HostDoes h.0) (taken_first h n (first ps)) room middle) control
    (subst (λ (g : HostId). StepEvents (HostDoes g.0) (taken_first g d (first ps)) room middle) same goes))))
    (subst (λ (g : HostId). Adds (HostDoes g.0) middle new) (later ∙ same) adds))

pub order_moved : (size : ℕ) (h : HostId) (c : ℕ) (o : Option Order) (live : Bool) (old new : List Event)
    → StepEvents (HostDoes h.0) (if live then taken_first h c o else None) old new → Moved size h.0 old new
order_moved size h c None true old new goes = goes_moved size h.0 None old new (λ e is. absurd (cc)) goes
order_moved size h c (Some o) true old new goes = moved_adds size h.0 old _ new goes (moved_head size h.0 _ old refl)
order_moved size h c o false old new goes = goes_moved size h.0 None old new (λ e is. absurd (cc)) goes

-- giving the page up

given_adds : (k : Kernel) (old : List Event) → Adds (HostDoes k.host.0) old (given_up k ++ old)
given_adds k old = by_right (0 == k.right) where
  one : (dirty : Bool) → HostDoes k.host.0 (put_away_event k.host.0 k.control dirty k.bytes)
  one true = (refl, refl, refl)
  one false = (refl, refl, refl)

  by_right : (b : Bool) → Adds (HostDoes k.host.0) old ((if b then [] else put_away_event k.host.0 k.control k.dirty k.bytes ∷ []) ++ old)
  by_right true = Same
  by_right false = More (put_away_event k.host.0 k.control k.dirty k.bytes) old (one k.dirty) Same

pub given_moved : (size : ℕ) (h : HostId) (p : Kernel) (old room new : List Event) → p.host ≡ h → room ≡ old → new ≡ given_up p ++ room → Moved size h.0 old new
given_moved size h p old room new same kept is =
    subst (λ (l : List Event). Moved size h.0 old l) (sym is)
    (subst (λ (l : List Event). Moved size h.0 l (given_up p ++ room)) kept
    (moved_adds size h.0 room room (given_up p ++ room) (subst (λ (g : HostId). Adds (HostDoes g.0) room (given_up p ++ room)) same (given_adds p room))
    (moved_none size h.0 room)))

pub left_moved : (size : ℕ) (h t : HostId) (control : ℕ) (old middle new : List Event) → t ≡ h
    → new ≡ event.Sent (Up t (record { 0 = 0 })) (message.Terminate control) ∷ middle → Moved size h.0 old middle → Moved size h.0 old new
left_moved size h t control old middle new same is moved =
    moved_adds size h.0 old middle new (subst (λ (g : HostId). Adds (HostDoes g.0) middle new) same (added (HostDoes t.0) middle new _ is (refl, refl, tt)))
    moved
