-- What the page law says of each shared page of a history whose events have their causes.
use Rattle.std.proofs.Common.{ℕ, ◌≡◌, List, [], ◌∷◌, sym, true}
use Rattle.std.specs.Prelude.{◌≢◌}
use Rattle.vm_model.specs.declared.event.Event.{Event}
use Rattle.vm_model.specs.declared.script.Header.{Header}
use Rattle.vm_model.specs.Coherence.{PageLegal}
use Rattle.vm_model.specs.Local.{CanRead, CanWrite}
use Rattle.vm_model.specs.Moments.{EachEvent, EachMoment}
use Rattle.vm_model.specs.PagePart.{page_part}
use Rattle.vm_model.specs.Server.{current}
use Rattle.vm_legal.specs.Bytes.{OwnBytes}
use Rattle.vm_legal.specs.Legal.{HasOneWriter}
use Rattle.vm_legal.specs.Licences.{HasCause}
use Rattle.vm_legal.specs.Outside.{Outside, is_shared}
use Rattle.vm_legal.specs.Walks.{page_on}
use Rattle.vm_coherence.proofs.Locals as page
use Rattle.vm_coherence.proofs.Whole.{page_legal}
use Rattle.vm_flat.proofs.Locals.{each_founded}
use Rattle.vm_shared.proofs.Kept.{unmerged}
use Rattle.vm_shared.proofs.Causes.{licensed}

pub legal : (header : Header) (outside : Outside) (history : List Event) → EachEvent (HasCause header outside) history → EachEvent (OwnBytes header) history
    → (o p : ℕ) → is_shared header o ≡ true → PageLegal header.size (page_part header.size o p history)
legal header outside history caused own o p shared =
    page_legal header.size (page_part header.size o p history) (licensed header outside history caused own o p shared)

pub one_writer : (header : Header) (outside : Outside) (history : List Event) → EachEvent (HasCause header outside) history
    → EachEvent (OwnBytes header) history → (g h o p : ℕ) → is_shared header o ≡ true → g ≢ h → CanWrite (page_on header h o p history)
    → CanRead (page_on header g o p history) → ⊥
one_writer header outside history caused own g h o p shared apart write read =
    page.one_writer header history g h o p (unmerged header outside history caused o shared) (each_founded header outside history caused)
    (licensed header outside history caused own o p shared) apart write
    read

-- it has one writer at every moment
pub writers : (header : Header) (outside : Outside) (history : List Event) → EachEvent (HasCause header outside) history → EachEvent (OwnBytes header) history
    → EachMoment (HasOneWriter header) history
writers header outside [] caused own = λ g h o p shared apart. one_writer header outside [] caused own h g o p shared (λ same. apart (sym same))
writers header outside (e ∷ past) caused own = (
  λ g h o p shared apart. one_writer header outside (e ∷ past) caused own h g o p shared (λ same. apart (sym same)),
  writers header outside past caused.1 own.1,
)

pub same_bytes : (header : Header) (outside : Outside) (history : List Event) → EachEvent (HasCause header outside) history
    → EachEvent (OwnBytes header) history → (h o p : ℕ) → is_shared header o ≡ true → (page_on header h o p history).here ≡ true
    → (page_on header h o p history).bytes ≡ current header.size (page_part header.size o p history)
same_bytes header outside history caused own h o p shared here =
    page.local_bytes header history h o p (unmerged header outside history caused o shared) (each_founded header outside history caused)
    (licensed header outside history caused own o p shared) here
