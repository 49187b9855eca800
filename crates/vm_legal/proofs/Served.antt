-- Which row is that of a message down, by the kind of its object.
use Rattle.std.proofs.Common.{◌≡◌, ℕ, ◌≤◌, Bool, true, false, List, Option, Some, None, refl, arith}
use Rattle.std.proofs.lemmas.Bool.Decides.{nat_tests}
use Rattle.std.specs.Prelude.{◌&&◌, ◌||◌, not, nat_lt, if◌then◌else◌}
use Rattle.vm_base.specs.declared.ids.ObjectKind.{ObjectKind}
use Rattle.vm_base.specs.declared.ids.ObjectKind.TheVariants.{Temp, File, Shared, Wild}
use Rattle.vm_model.specs.declared.command.Command.{Command}
use Rattle.vm_model.specs.declared.event.Event.{Event}
use Rattle.vm_model.specs.declared.message.Message.{Message}
use Rattle.vm_model.specs.declared.script.Declared.{Declared}
use Rattle.vm_model.specs.declared.script.Header.{Header}
use Rattle.vm_model.specs.Named.{declared, named}
use Rattle.vm_legal.specs.Licences.{MaySendDown, PagerSends, is_paged}
use Rattle.vm_legal.specs.Outside.{Outside, is_file_kept, is_file_kind, kind_in, kind_of}

-- the kinds that the default pager and the file pager serve
abbrev serves : ObjectKind → Bool
serves Temp = true
serves File = true
serves Shared = false
serves Wild = false

kept_serves : (found : Option Declared) → is_file_kept found ≡ true → serves (kind_in found) ≡ true
kept_serves None is = absurd (let bad : false ≡ true = is in cc)
kept_serves (Some object) is = file object.kind is
  where
    file : (kind : ObjectKind) → is_file_kind kind ≡ true → serves kind ≡ true
    file Temp is = absurd (let bad : false ≡ true = is in cc)
    file File is = refl
    file Shared is = absurd (let bad : false ≡ true = is in cc)
    file Wild is = absurd (let bad : false ≡ true = is in cc)

paged_serves : (header : Header) (o : ℕ) → is_paged header o ≡ true → serves (kind_of header o) ≡ true
paged_serves header o is = by (nat_lt o (named header)) is
  where
    by : (b : Bool) → (not b || (b && is_file_kept (declared header o))) ≡ true → serves (if b then kind_in (declared header o) else Temp) ≡ true
    by true is = kept_serves (declared header o) is
    by false is = refl

-- what is sent down of a temporary object or a file

served_sends : (kind : ObjectKind) (header : Header) (outside : Outside) (why : Command) (host object control : ℕ) (m : Message) (past : List Event)
    → serves kind ≡ true
    → PagerSends kind header outside why host object control m past → MaySendDown header outside why host object control m past
served_sends Temp header outside why host object control m past is sends = sends
served_sends File header outside why host object control m past is sends = sends
served_sends Shared header outside why host object control m past is sends = absurd (let bad : false ≡ true = is in cc)
served_sends Wild header outside why host object control m past is sends = absurd (let bad : false ≡ true = is in cc)

sends_served : (kind : ObjectKind) (header : Header) (outside : Outside) (why : Command) (host object control : ℕ) (m : Message) (past : List Event)
    → serves kind ≡ true
    → MaySendDown header outside why host object control m past → PagerSends kind header outside why host object control m past
sends_served Temp header outside why host object control m past is may = may
sends_served File header outside why host object control m past is may = may
sends_served Shared header outside why host object control m past is may = absurd (let bad : false ≡ true = is in cc)
sends_served Wild header outside why host object control m past is may = absurd (let bad : false ≡ true = is in cc)

pub paged_may : (header : Header) (outside : Outside) (why : Command) (host object control : ℕ) (m : Message) (past : List Event)
    → is_paged header object ≡ true
    → PagerSends (kind_of header object) header outside why host object control m past → MaySendDown header outside why host object control m past
paged_may header outside why host object control m past is sends =
    served_sends (kind_of header object) header outside why host object control m past (paged_serves header object is) sends

pub paged_sends : (header : Header) (outside : Outside) (why : Command) (host object control : ℕ) (m : Message) (past : List Event)
    → is_paged header object ≡ true
    → MaySendDown header outside why host object control m past → PagerSends (kind_of header object) header outside why host object control m past
paged_sends header outside why host object control m past is may =
    sends_served (kind_of header object) header outside why host object control m past (paged_serves header object is) may

-- a temporary object is one
pub later_paged : (header : Header) (object : ℕ) → named header ≤ object → is_paged header object ≡ true
later_paged header object above = grind (arith, nat_tests)
