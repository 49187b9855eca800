-- What a page's part says that a host asked for last is what the history says.
use Rattle.std.proofs.Common.{ℕ, ◌≡◌, ◌==◌, ◌∙◌, ◌&&◌, ◌%◌, Bool, true, false, List, [], ◌∷◌, refl, if◌then◌else◌, replicate}
use Rattle.vm_bound.proofs.Granting.{asked_after, asked_as}
use Rattle.vm_bound.specs.Places.{asked_for}
use Rattle.vm_model.specs.PagePart.{page_part}
use Rattle.vm_model.specs.Side.{side}
use Rattle.vm_model.specs.TaskPlace.{means_page, task_host}
use Rattle.vm_model.specs.Words.{Act, ActEffect, Asking, Begins, Copies, Doing, Drops, EndsCopy, Fails, Loads, Nothing, OtherUp, Puts}
use Rattle.vm_model.specs.Words.{Returning, SendsUp, SentDown, StepBegins, Stores, TakenUp, TakesDown, Unlocking, UpWord, act_of, down_word}
use Rattle.vm_model.specs.Words.{effect_on, in_range, sent_act_effect, to_others, up_word}
use Rattle.vm_model.specs.declared.event.Event.{Event}
use Rattle.vm_model.specs.declared.event.Event.TheVariants as event
use Rattle.vm_model.specs.declared.message.Channel.TheVariants.{Up, Down}
use Rattle.vm_model.specs.declared.message.Message.{Message}
use Rattle.vm_model.specs.declared.message.Message.TheVariants as message

-- the effect asks for nothing
abbrev Unasking : ActEffect → Type 0
Unasking (SendsUp control (Asking asker access)) = ⊥
Unasking other = Unit {0}

unasked : (e : ActEffect) (was : ℕ) → Unasking e → asked_after e was ≡ was
unasked (SendsUp control (Asking asker access)) was is = absurd is
unasked e was is = refl

unasked_others : (e : ActEffect) (was : ℕ) → asked_after (to_others e) was ≡ was
unasked_others (TakenUp word) was = refl
unasked_others (TakesDown control word) was = refl
unasked_others StepBegins was = refl
unasked_others e was = refl

unasked_on : (h : ℕ) (a : Act) (was : ℕ) → Unasking a.effect → asked_after (effect_on h a) was ≡ was
unasked_on h a was is = by (a.host == h)
  where
    by : (b : Bool) → asked_after (if b then a.effect else to_others a.effect) was ≡ was
    by true = unasked a.effect was is
    by false = unasked_others a.effect was

unasking_if : (b : Bool) (e f : ActEffect) → Unasking e → Unasking f → Unasking (if b then e else f)
unasking_if true e f one two = one
unasking_if false e f one two = two

unasking_word : (control : ℕ) (b : Bool) (w : UpWord) → Unasking (SendsUp control w) → Unasking (SendsUp control (if b then w else OtherUp))
unasking_word control true w is = is
unasking_word control false w is = tt

unasking_sent : (o p : ℕ) (b : Bool) (m : Message) → Unasking (sent_act_effect p m) → Unasking (if b then sent_act_effect p m else Nothing)
unasking_sent o p b m is = unasking_if b (sent_act_effect p m) Nothing is tt

-- an event that sends nothing up
abbrev IsUp : Event → Type 0
IsUp (event.Sent (Up host object) m) = Unit {0}
IsUp other = ⊥

unasking_at : (size o p : ℕ) (hosts : ℕ → ℕ) (means : ℕ → ℕ → Bool) (held : ℕ → ℕ → ℕ → List ℕ) (e : Event) → (IsUp e → ⊥)
    → Unasking (act_of size o p hosts means held e).effect
unasking_at size o p hosts means held (event.Sent (Up host object) m) isnt = absurd (isnt tt)
unasking_at size o p hosts means held (event.Sent (Down host object control) m) isnt =
    unasking_if (object.0 == o) (SentDown control (down_word p m)) Nothing tt tt
unasking_at size o p hosts means held (event.Taken (Up host object) m) isnt = unasking_if (object.0 == o) (TakenUp (up_word p m)) StepBegins tt tt
unasking_at size o p hosts means held (event.Taken (Down host object control) m) isnt =
    unasking_if (object.0 == o) (TakesDown control (down_word p m)) StepBegins tt tt
unasking_at size o p hosts means held (event.Dropped host object page) isnt = unasking_if (object.0 == o && page.0 == p) Drops Nothing tt tt
unasking_at size o p hosts means held (event.Zeroed host object page) isnt =
    unasking_if (object.0 == o && page.0 == p) (Puts (replicate size 0) false) Nothing tt tt
unasking_at size o p hosts means held (event.Raised host lower lower_page upper upper_page) isnt =
    unasking_if (upper.0 == o && upper_page.0 == p) (Puts (held host.0 lower.0 lower_page.0) true) Nothing tt tt
unasking_at size o p hosts means held (event.CopiedPage owner page object object_page target) isnt =
    unasking_if (target.0 == o && page.0 == p) (Puts (held (hosts owner.0) object.0 object_page.0) true)
    (if object.0 == o && object_page.0 == p then Copies owner.0 else Nothing) tt
    (unasking_if (object.0 == o && object_page.0 == p) (Copies owner.0) Nothing tt tt)
unasking_at size o p hosts means held (event.BegunLoad task address bytes) isnt =
    unasking_if (means task.0 address) (Begins task.0 false (address % size) bytes 0) Nothing tt tt
unasking_at size o p hosts means held (event.BegunStore task address bytes value) isnt =
    unasking_if (means task.0 address) (Begins task.0 true (address % size) bytes value) Nothing tt tt
unasking_at size o p hosts means held (event.Loaded task object page value) isnt =
    unasking_if (object.0 == o && page.0 == p) (Loads task.0 value) Nothing tt tt
unasking_at size o p hosts means held (event.Stored task object page at bytes value) isnt =
    unasking_if (object.0 == o && page.0 == p) (Stores task.0 at bytes value) Nothing tt tt
unasking_at size o p hosts means held (event.Failed task object page) isnt =
    unasking_if (object.0 == o && page.0 == p) (Fails task.0) (EndsCopy task.0) tt tt
unasking_at size o p hosts means held e isnt = tt

-- what a host sends up
asked_sent : (h o p : ℕ) (a b c : Bool) (control access was asked : ℕ) → was ≡ asked
    → asked_after (if a then (if b then SendsUp control (if c then Asking control access else OtherUp) else Nothing) else to_others
    (if b then SendsUp control (if c then Asking control access else OtherUp) else Nothing)) was
    ≡ (if a && (b && c) then access else asked)
asked_sent h o p true true true control access was asked same = refl
asked_sent h o p true true false control access was asked same = same
asked_sent h o p true false c control access was asked same = same
asked_sent h o p false true c control access was asked same = same
asked_sent h o p false false c control access was asked same = same

pub asked_same : (size h o p : ℕ) (past : List Event) → asked_as h (page_part size o p past) ≡ asked_for h o p past
asked_same size h o p [] = refl
asked_same size h o p (event.Sent (Up host object) (message.Request control page access) ∷ past) =
    asked_sent h o p (host.0 == h) (object.0 == o) (page.0 == p) control access (asked_as h (page_part size o p past)) (asked_for h o p past)
    (asked_same size h o p past)
asked_same size h o p (event.Sent (Up host object) (message.Unlock control page access) ∷ past) =
    unasked_on h (record { host = host.0; effect = if object.0 == o then sent_act_effect p (message.Unlock control page access) else Nothing })
    (asked_as h (page_part size o p past))
    (unasking_sent o p (object.0 == o) (message.Unlock control page access) (unasking_word control (page.0 == p) (Unlocking access) tt))
    ∙ asked_same size h o p past
asked_same size h o p (event.Sent (Up host object) (message.Return control page dirty keep bytes) ∷ past) =
    unasked_on h (record { host = host.0; effect = if object.0 == o then sent_act_effect p (message.Return control page dirty keep bytes) else Nothing })
    (asked_as h (page_part size o p past))
    (unasking_sent o p (object.0 == o) (message.Return control page dirty keep bytes)
    (unasking_word control (page.0 == p) (Returning dirty keep bytes) tt)) ∙ asked_same size h o p past
asked_same size h o p (event.Sent (Up host object) (message.Completed control page count) ∷ past) =
    unasked_on h (record { host = host.0; effect = if object.0 == o then sent_act_effect p (message.Completed control page count) else Nothing })
    (asked_as h (page_part size o p past))
    (unasking_sent o p (object.0 == o) (message.Completed control page count) (unasking_word control (in_range p page.0 count) (Doing control count) tt))
    ∙ asked_same size h o p past
asked_same size h o p (event.Sent (Up host object) m ∷ past) =
    unasked_on h (record { host = host.0; effect = if object.0 == o then sent_act_effect p m else Nothing }) (asked_as h (page_part size o p past))
    (unasking_sent o p (object.0 == o) m tt) ∙ asked_same size h o p past
asked_same size h o p (e ∷ past) =
    unasked_on h (act_of size o p (λ task. task_host task past) (λ task address. means_page size o p task address past)
    (λ host object page. (side host (page_part size object page past)).bytes) e) (asked_as h (page_part size o p past))
    (unasking_at size o p (λ task. task_host task past) (λ task address. means_page size o p task address past)
    (λ host object page. (side host (page_part size object page past)).bytes) e (λ is. is)) ∙ asked_same size h o p past
