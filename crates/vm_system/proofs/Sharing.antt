-- What the laws of shared memory say of a system's history, and of the server that stands for it.
use Rattle.vm_system.proofs.Common.{BeforeSteps, NoneIsTemporary, Bool, EachEvent, Event, HasCause, Header, IsPaid, List}
use Rattle.vm_system.proofs.Common.{MeetsProtocol, Message, ObjectId, Outside, OwnBytes, [], arith, false, is_shared, named, nat_lt, nat_tests, never}
use Rattle.vm_system.proofs.Common.{page_part, queue, refl, subst, sym, true, up, up_word, ℕ, ◌≡◌, first, if◌then◌else◌, AllServed, IsRanged, ap, kind_of}
use Rattle.vm_system.proofs.Common.{◌≤◌, ◌==◌, ◌≢◌, ◌∙◌}
use Rattle.vm_base.specs.declared.ids.ObjectKind.TheVariants as kinds
use Rattle.vm_legal.specs.Outside.{kind_in}
use Rattle.vm_model.proofs.Names.{each_declared}
use Rattle.vm_model.specs.Named.{declared}
use Rattle.vm_model.specs.declared.script.Declared.{Declared}
use Rattle.std.proofs.Common.{Option, Some}
use Rattle.vm_model.specs.Side.{side}
use Rattle.vm_model.specs.Words.{Asking, Doing, OtherUp, Returning, Unlocking, in_range}
use Rattle.vm_model.specs.declared.message.Message.TheVariants as message
use Rattle.vm_shared.proofs.Protocol.{completed_mine, ended_mine, request_alone, unlock_alone}

-- no declared object is temporary
pub none_temporary : (header : Header) → IsRanged header → NoneIsTemporary header
none_temporary header ranged o below same =
    let found = each_declared (λ (object : Declared). object.kind ≢ kinds.Temp) header o ranged.kinds below in
    let within : nat_lt o (named header) ≡ true = grind (arith, nat_tests) in
    found.2 (sym (by (nat_lt o (named header)) (declared header o) found.0 within found.1) ∙ same)
  where
    by : (b : Bool) (row : Option Declared) (object : Declared) → b ≡ true → row ≡ Some object → (if b then kind_in row else kinds.Temp) ≡ object.kind
    by true row object low is = ap kind_in is
    by false row object low is = never low

-- so an object that is temporary isn't declared
pub undeclared : (header : Header) (o : ℕ) → IsRanged header → kind_of header o ≡ kinds.Temp → named header ≤ o
undeclared header o ranged is = by (nat_lt o (named header)) refl
  where
    by : (b : Bool) → nat_lt o (named header) ≡ b → named header ≤ o
    by true low = absurd (none_temporary header ranged o (grind (arith, nat_tests, low)) is)
    by false high = grind (arith, nat_tests, high)

-- a message about a shared object is what its server is promised
pub protocol_met : (header : Header) (outside : Outside) (h : ℕ) (object : ObjectId) (m : Message) (past : List Event) → is_shared header object.0 ≡ true
    → EachEvent (HasCause header outside) past → EachEvent (OwnBytes header) past
    → BeforeSteps (IsPaid header) past → first (queue (up h object.0) past) ≡ Some m → (p : ℕ)
    → MeetsProtocol h (up_word p m) (page_part header.size object.0 p past)
protocol_met header outside h object (message.Request control page access) past shared causes own paid head p = by (page.0 == p) refl
  where
    by : (b : Bool) → (page.0 == p) ≡ b → MeetsProtocol h (if b then Asking control access else OtherUp) (page_part header.size object.0 p past)
    by true is =
        let same : page.0 ≡ p = grind (arith, nat_tests) in
        subst (λ (q : ℕ). MeetsProtocol h (Asking control access) (page_part header.size object.0 q past)) same
        (request_alone header outside h object.0 control access page past causes own shared head).0
    by false is = tt
protocol_met header outside h object (message.Unlock control page access) past shared causes own paid head p = by (page.0 == p) refl
  where
    by : (b : Bool) → (page.0 == p) ≡ b → MeetsProtocol h (if b then Unlocking access else OtherUp) (page_part header.size object.0 p past)
    by true is =
        let same : page.0 ≡ p = grind (arith, nat_tests) in
        subst (λ (q : ℕ). MeetsProtocol h (Unlocking access) (page_part header.size object.0 q past)) same
        (unlock_alone header outside h object.0 control access page past causes own paid shared head).0
    by false is = tt
protocol_met header outside h object (message.Return control page dirty keep bytes) past shared causes own paid head p = by (page.0 == p)
  where
    by : (b : Bool) → MeetsProtocol h (if b then Returning dirty keep bytes else OtherUp) (page_part header.size object.0 p past)
    by true = tt
    by false = tt
protocol_met header outside h object (message.Completed control page count) past shared causes own paid head p = by (in_range p page.0 count) refl
  where
    mine : (count ≡ 1) × ((side h (page_part header.size object.0 page.0 past)).awaited_control ≡ control)
    mine = completed_mine header outside h object.0 control count page past causes own paid shared head

    by : (b : Bool) → in_range p page.0 count ≡ b → MeetsProtocol h (if b then Doing control count else OtherUp) (page_part header.size object.0 p past)
    by true is =
        let single = mine.0 in
        let same : page.0 ≡ p = grind (arith, nat_tests) in
        λ awaited. subst (λ (q : ℕ). (side h (page_part header.size object.0 q past)).awaited_control ≡ control) same mine.1
    by false is = tt
protocol_met header outside h object (message.Terminate control) past shared causes own paid head p =
    (ended_mine header outside h object.0 control p past causes own paid shared head).1
protocol_met header outside h object m past shared causes own paid head p = tt

-- the server

pub served_start : (header : Header) → AllServed header []
served_start header object page shared line = absurd (line refl)
