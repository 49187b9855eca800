-- What an answer says, and what it leaves.
use Rattle.std.proofs.Common.{ℕ, ◌≡◌, ◌*◌, Bool, true, false, List, [], ◌∷◌, Ok, refl, sym, ◌∙◌, ap, subst, inl, inr}
use Rattle.pg_answers.specs.Answers.{AnswerHasCause, RepliesOnce, TellsFault, error, supply}
use Rattle.vm_base.specs.Listing.{Listed}
use Rattle.vm_base.specs.declared.ids.PageNo.{PageNo}
use Rattle.vm_model.specs.declared.event.Device.TheVariants.{Files}
use Rattle.vm_model.specs.declared.event.Event.{Event}
use Rattle.vm_model.specs.declared.event.Way.TheVariants.{Read}
use Rattle.vm_model.specs.declared.message.Message.TheVariants.{Unavailable}
use Rattle.vm_outside.specs.Areas.{SameAreas, Told, WriteTold}
use Rattle.pg_file.specs.declared.found.Found.{Found}
use Rattle.pg_file.specs.declared.found.Found.TheVariants.{Page, Absent, Lost, Failed}
use Rattle.pg_file.specs.Answers.{device_failed, is_stored, told_of, write_answer}
use Rattle.pg_file.specs.Finding.{FindHasCause, StoreHasCause, find_events}

pub same_areas : (areas : List ℕ → Told) → SameAreas areas areas
same_areas areas = λ name was told. told

pub replies : (found : Found) (host object control : ℕ) (page : PageNo) (events : List Event) → events ≡ find_events found host object control page
    → RepliesOnce Files host (record { 0 = object }) control page events
replies (Page bytes) host object control page events is = record { reply = supply page bytes; about = refl; faults = []; last = is; few = inl refl }
replies Absent host object control page events is = record { reply = Unavailable page; about = refl; faults = []; last = is; few = inl refl }
replies Lost host object control page events is = record { reply = error page; about = refl; faults = []; last = is; few = inl refl }
replies Failed host object control page events is =
    record { reply = error page; about = refl; faults = device_failed Read object page ∷ []; last = is; few = inr refl }

pub found_cause : (found : Found) (host object control : ℕ) (page : PageNo) (before now : ℕ) (events : Listed Event)
    → events.items ≡ find_events found host object control page → FindHasCause before now (Ok found) → AnswerHasCause before now (Ok events)
found_cause (Page bytes) host object control page before now events is cause =
    record { later = cause.later; failed = λ fault. absurd (subst TellsFault is fault); spared = λ none. cause.spared (λ bad. cc); same = tt }
found_cause Absent host object control page before now events is cause =
    record { later = cause.later; failed = λ fault. absurd (subst TellsFault is fault); spared = λ none. cause.spared (λ bad. cc); same = tt }
found_cause Lost host object control page before now events is cause =
    record { later = cause.later; failed = λ fault. absurd (subst TellsFault is fault); spared = λ none. cause.spared (λ bad. cc); same = tt }
found_cause Failed host object control page before now events is cause =
    record { later = cause.later; failed = λ fault. cause.failed refl; spared = λ none. absurd (none (subst TellsFault (sym is) tt)); same = tt }

pub stored_cause : (stored : Bool) (object : ℕ) (page : PageNo) (before now : ℕ) (events : Listed Event) → events.items ≡ told_of stored object page
    → StoreHasCause before now (Ok stored) → AnswerHasCause before now (Ok events)
stored_cause true object page before now events is cause =
    record { later = cause.later; failed = λ fault. absurd (subst TellsFault is fault); spared = λ none. cause.spared (λ bad. cc); same = tt }
stored_cause false object page before now events is cause =
    record { later = cause.later; failed = λ fault. cause.failed refl; spared = λ none. absurd (none (subst TellsFault (sym is) tt)); same = tt }

pub told_stored : (stored : Bool) (object : ℕ) (page : PageNo) → is_stored (told_of stored object page) ≡ stored
told_stored true object page = refl
told_stored false object page = refl

pub areas_written : (before after : List ℕ → Told) (stored : Bool) (name bytes : List ℕ) (object size : ℕ) (page : PageNo) (events : List Event)
    → events ≡ told_of stored object page
    → WriteTold before after name (page.0 * size) bytes (write_answer stored)
    → WriteTold before after name (page.0 * size) bytes (write_answer (is_stored events))
areas_written before after stored name bytes object size page events is told =
    let same : is_stored events ≡ stored = ap is_stored is ∙ told_stored stored object page in
    rw same told
