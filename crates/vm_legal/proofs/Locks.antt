-- A step that took no message down took no lock_request, no change_attributes, and no end of an object.
use Rattle.std.proofs.Common.{◌≡◌, Bool, true, false, List, [], ◌∷◌, Option, Some, None, refl, ap, sym, ◌∙◌}
use Rattle.vm_model.specs.declared.event.Event.{Event}
use Rattle.vm_model.specs.declared.event.Event.TheVariants as event
use Rattle.vm_model.specs.declared.message.Channel.{Channel}
use Rattle.vm_model.specs.declared.message.Channel.TheVariants.{Up, Down}
use Rattle.vm_model.specs.declared.message.Message.{Message}
use Rattle.vm_legal.specs.Cached.{Attributes, attributes_taken}
use Rattle.vm_legal.specs.Destroyed.{destroy_taken}
use Rattle.vm_legal.specs.Licences.{LockRequest, lock_taken}
use Rattle.vm_legal.specs.Steps.{Letter, taken_letter}

abbrev is_down : Channel → Bool
is_down (Up host object) = false
is_down (Down host object control) = true

abbrev pub came_down : Option Letter → Bool
came_down None = false
came_down (Some letter) = is_down letter.channel

-- what was taken was no lock_request
unlocking : (at : Channel) (m : Message) (past : List Event) → is_down at ≡ false → lock_taken (event.Taken at m ∷ past) ≡ None
unlocking (Up host object) m past up = refl
unlocking (Down host object control) m past up = absurd (let bad : true ≡ false = up in cc)

pub no_lock : (past : List Event) → came_down (taken_letter past) ≡ false → lock_taken past ≡ None
no_lock [] up = refl
no_lock (event.Line line ∷ past) up = refl
no_lock (event.Taken channel m ∷ past) up = unlocking channel m past up
no_lock (e ∷ past) up = no_lock past up

pub none_locked : (past : List Event) → taken_letter past ≡ None → lock_taken past ≡ None
none_locked past none = no_lock past (ap came_down none)

unchanging : (at : Channel) (m : Message) (past : List Event) → is_down at ≡ false → attributes_taken (event.Taken at m ∷ past) ≡ None
unchanging (Up host object) m past up = refl
unchanging (Down host object control) m past up = absurd (let bad : true ≡ false = up in cc)

pub no_attributes : (past : List Event) → came_down (taken_letter past) ≡ false → attributes_taken past ≡ None
no_attributes [] up = refl
no_attributes (event.Line line ∷ past) up = refl
no_attributes (event.Taken channel m ∷ past) up = unchanging channel m past up
no_attributes (e ∷ past) up = no_attributes past up

undestroying : (at : Channel) (m : Message) (past : List Event) → is_down at ≡ false
    → destroy_taken (event.Taken at m ∷ past) ≡ None
undestroying (Up host object) m past up = refl
undestroying (Down host object control) m past up = absurd (let bad : true ≡ false = up in cc)

pub no_destroy : (past : List Event) → came_down (taken_letter past) ≡ false → destroy_taken past ≡ None
no_destroy [] up = refl
no_destroy (event.Line line ∷ past) up = refl
no_destroy (event.Taken channel m ∷ past) up = undestroying channel m past up
no_destroy (e ∷ past) up = no_destroy past up

pub none_changed : (past : List Event) → taken_letter past ≡ None → attributes_taken past ≡ None
none_changed past none = no_attributes past (ap came_down none)

pub none_destroyed : (past : List Event) → taken_letter past ≡ None → destroy_taken past ≡ None
none_destroyed past none = no_destroy past (ap came_down none)

-- so it owes nothing of one
pub no_change : {R : Type 0} (request : Attributes) (past : List Event) → attributes_taken past ≡ None → attributes_taken past ≡ Some request → R
no_change request past none is = let bad : ◌≡◌ {A = Option Attributes} None (Some request) = sym none ∙ is in absurd (cc)

pub no_request : {R : Type 0} (request : LockRequest) (past : List Event) → lock_taken past ≡ None → lock_taken past ≡ Some request → R
no_request request past none is = let bad : ◌≡◌ {A = Option LockRequest} None (Some request) = sym none ∙ is in absurd (cc)
