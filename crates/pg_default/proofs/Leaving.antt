-- What a message leaves of areas and contents.
use Rattle.std.proofs.Common.{ℕ, ◌≡◌, List, Option, None, Ok, refl, ◌∙◌, ap}
use Rattle.std.proofs.lemmas.Option.{none-some}
use Rattle.pg_default.specs.Answers.{became, told_of}
use Rattle.pg_slots.specs.Contents.{CarriesContent, Content, PutTold, SlotsFit, after_put, content_without, same_content}
use Rattle.pg_slots.specs.Slots.{SlotTable}
use Rattle.pg_slots.specs.declared.answers.Put.{Put}
use Rattle.pg_slots.specs.declared.answers.Put.TheVariants.{Kept, NoSlot, Failed}
use Rattle.vm_base.specs.declared.ids.ObjectId.{ObjectId}
use Rattle.vm_base.specs.declared.ids.PageNo.{PageNo}
use Rattle.vm_model.specs.declared.event.Event.{Event}
use Rattle.vm_outside.specs.Areas.{SameAreas, Told}

pub same_areas : (areas : List ℕ → Told) → SameAreas areas areas
same_areas areas = λ name was told. told

pub carried_same : (areas : List ℕ → Told) (slots : SlotTable) → CarriesContent areas areas slots slots same_content
carried_same areas slots = record { agrees = λ content agrees. agrees; fits = λ content told fits. fits }

-- a content that they agree on they fit where nothing is told
pub carried_dropped : (areas : List ℕ → Told) (old new : SlotTable) (object : ℕ)
    → ((told : List ℕ → Told) (content : Content) → SlotsFit told old content → SlotsFit told new (content_without object content))
    → CarriesContent areas areas old new (content_without object)
carried_dropped areas old new object keeps = record {
  agrees = λ content agrees.
      let kept = keeps (λ name. None) content (record { agrees = agrees; bytes = λ o p s bytes holds is was told. absurd (none-some was told) }) in
      kept.agrees;
  fits = λ content told fits. keeps areas content fits;
}

became_told : (put : Put) (object : ObjectId) (page : PageNo) → became (told_of put object page) ≡ put
became_told Kept object page = refl
became_told NoSlot object page = refl
became_told Failed object page = refl

pub became_put : (put : Put) (object : ObjectId) (page : PageNo) (events : List Event) → events ≡ told_of put object page → became events ≡ put
became_put put object page events told = ap became told ∙ became_told put object page

pub carried_put : (before after : List ℕ → Told) (old new : SlotTable) (put : Put) (object : ObjectId) (page : PageNo) (bytes : List ℕ) (events : List Event)
    → events ≡ told_of put object page
    → CarriesContent before after old new (after_put (Ok put) object.0 page.0 bytes)
    → CarriesContent before after old new (after_put (Ok (became events)) object.0 page.0 bytes)
carried_put before after old new put object page bytes events told carries = rw (became_put put object page events told) carries

pub areas_put : (before after : List ℕ → Told) (slots : SlotTable) (put : Put) (object : ObjectId) (page : PageNo) (slot : Option ℕ) (bytes : List ℕ)
    (events : List Event) → events ≡ told_of put object page
    → PutTold (Ok put) before after slots slot bytes → PutTold (Ok (became events)) before after slots slot bytes
areas_put before after slots put object page slot bytes events told leaves = rw (became_put put object page events told) leaves
