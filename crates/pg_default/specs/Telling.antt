-- The events that tell what the slots gave.
use Rattle.std.specs.Prelude.{ℕ, List, [], ◌∷◌}
use Rattle.pg_answers.specs.Answers.{error, sent_to, supply}
use Rattle.pg_slots.specs.declared.answers.Got.{Got}
use Rattle.pg_slots.specs.declared.answers.Got.TheVariants as got
use Rattle.pg_default.specs.Answers.{device_failed}
use Rattle.vm_base.specs.declared.ids.ObjectId.{ObjectId}
use Rattle.vm_base.specs.declared.ids.PageNo.{PageNo}
use Rattle.vm_model.specs.declared.event.Event.{Event}
use Rattle.vm_model.specs.declared.event.Way.TheVariants.{Read}
use Rattle.vm_model.specs.declared.message.Message.TheVariants as message

abbrev pub get_answer_events : Got → ℕ → ObjectId → ℕ → PageNo → List Event
get_answer_events (got.Page bytes) host object control page = sent_to host object control (supply page bytes) ∷ []
get_answer_events got.Never host object control page = sent_to host object control (message.Unavailable page) ∷ []
get_answer_events got.Lost host object control page = sent_to host object control (error page) ∷ []
get_answer_events got.Failed host object control page =
    sent_to host object control (error page) ∷ device_failed Read object page ∷ []
