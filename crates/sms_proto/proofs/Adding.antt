-- One more event, and events behind events.
use Rattle.std.proofs.Common.{◌≡◌, List, ◌∷◌, sym, subst, OnOk}
use Rattle.std.specs.Prelude.{Result, Ok, Err}
use Rattle.vm_model.specs.declared.message.Channel.TheVariants.{Up}
use Rattle.vm_model.specs.declared.message.Message.{Message}
use Rattle.vm_model.specs.declared.event.Event.{Event}
use Rattle.vm_model.specs.declared.event.Event.TheVariants.{Sent}
use Rattle.vm_base.specs.declared.ids.HostId.{HostId}
use Rattle.sms_proto.specs.Adds.{Adds, Same, More, HostDoes, IsPageMessage}

pub added : (P : Event → Type 0) (old new : List Event) (e : Event) → new ≡ e ∷ old → P e → Adds P old new
added P old new e is own = subst (λ (l : List Event). Adds P old l) (sym is) (More e old own Same)

pub added_letter : (host : HostId) (old new : List Event) (e : Event) (m : Message) → new ≡ e ∷ old → e ≡ Sent (Up host (record { 0 = 0 })) m → IsPageMessage m
    → Adds (HostDoes host.0) old new
added_letter host old new e m is sent letter =
    added (HostDoes host.0) old new e is (subst (λ (x : Event). HostDoes host.0 x) (sym sent) (refl_of, refl_of, letter)) where
      refl_of : {A : Type 0} {x : A} → x ≡ x
      refl_of {A} {x} = λ i. x

pub adds_more : (P : Event → Type 0) (old middle new : List Event) → Adds P middle new → Adds P old middle → Adds P old new
adds_more P old middle _ Same first = first
adds_more P old middle _ (More e past own rest) first = More e past own (adds_more P old middle past rest first)

pub adds_next : (P : Event → Type 0) (base middle new : List Event) (e f : Event) → new ≡ e ∷ middle → e ≡ f → P f → Adds P base middle → Adds P base new
adds_next P base middle new e f is same own rest =
    subst (λ (l : List Event). Adds P base l) (sym is) (More e middle (subst (λ (x : Event). P x) (sym same) own) rest)

pub adds_none : (P : Event → Type 0) (old middle : List Event) (e f : Event) → middle ≡ e ∷ old → e ≡ f → Adds P (f ∷ old) middle
adds_none P old middle e f is same = subst (λ (l : List Event). Adds P (f ∷ old) l) (sym is) (subst (λ (x : Event). Adds P (x ∷ old) (e ∷ old)) same Same)

pub on_ok : {E : Type 0} (r : Result (Unit {0}) E) (A B : Type 0) → (A → B) → OnOk r A → OnOk r B
on_ok (Ok u) A B f a = f a
on_ok (Err e) A B f a = tt
