-- What the pager of a file or of a temporary object may answer, whichever it is.
use Rattle.std.proofs.Common.{ℕ, ◌≡◌, true, false, List, [], ◌∷◌, refl, inl, inr}
use Rattle.vm_base.specs.declared.ids.HostId.{HostId}
use Rattle.vm_base.specs.declared.ids.ObjectId.{ObjectId}
use Rattle.vm_base.specs.declared.ids.PageNo.{PageNo}
use Rattle.vm_model.specs.declared.command.Command.{Command}
use Rattle.vm_model.specs.declared.event.Event.{Event}
use Rattle.vm_model.specs.declared.event.Event.TheVariants as event
use Rattle.vm_model.specs.declared.message.Channel.TheVariants.{Down}
use Rattle.vm_model.specs.declared.message.Message.TheVariants as message
use Rattle.vm_model.specs.declared.script.Header.{Header}
use Rattle.vm_legal.proofs.Served.{paged_sends}
use Rattle.vm_legal.specs.InTurn.{AllInTurn}
use Rattle.vm_legal.specs.Licences.{init_strategy, is_paged, up}
use Rattle.vm_legal.specs.Outside.{Outside}
use Rattle.vm_legal.specs.Pagers.{is_lost}

-- it is ready once, with the strategy that the first message and the object's kind ask for
pub init_answered : (header : Header) (outside : Outside) (doing : Command) (host : HostId) (object : ObjectId) (control size strategy : ℕ) (past : List Event)
    → is_paged header object.0 ≡ true → strategy ≡ init_strategy header object.0
    → AllInTurn header outside doing (event.Sent (Down host object control) (message.Ready false strategy) ∷ [])
    (event.Taken (up host.0 object.0) (message.Init control size) ∷ past)
init_answered header outside doing host object control size strategy past paged fits = (
  (
    paged_sends header outside doing host.0 object.0 control (message.Ready false strategy)
        (event.Taken (up host.0 object.0) (message.Init control size) ∷ past) paged (size, refl, refl, inr (refl, fits)),
    tt,
  ),
  tt,
)

pub create_answered : (header : Header) (outside : Outside) (doing : Command) (host : HostId) (object : ObjectId) (control size : ℕ) (past : List Event)
    → is_paged header object.0 ≡ true
    → AllInTurn header outside doing (event.Sent (Down host object control) (message.Ready false 3) ∷ [])
    (event.Taken (up host.0 object.0) (message.Create control size) ∷ past)
create_answered header outside doing host object control size past paged = (
  (
    paged_sends header outside doing host.0 object.0 control (message.Ready false 3) (event.Taken (up host.0 object.0) (message.Create control size) ∷ past)
        paged (size, refl, refl, inl (refl, refl)),
    tt,
  ),
  tt,
)

-- a request of a page that was lost fails
pub lost_answered : (header : Header) (outside : Outside) (doing : Command) (host : HostId) (object : ObjectId) (control : ℕ) (page : PageNo) (access : ℕ)
    (past : List Event) → is_paged header object.0 ≡ true → is_lost object.0 page.0 past ≡ true
    → AllInTurn header outside doing (event.Sent (Down host object control) (message.Error page 10) ∷ [])
    (event.Taken (up host.0 object.0) (message.Request control page access) ∷ past)
lost_answered header outside doing host object control page access past paged lost = (
  (
    paged_sends header outside doing host.0 object.0 control (message.Error page 10)
        (event.Taken (up host.0 object.0) (message.Request control page access) ∷ past) paged
        (record { access = access; taken = refl; unanswered = refl }, refl, inl lost),
    tt,
  ),
  tt,
)
