-- What a command that is no host's asks: what a file's pager says for a clean, and what a script says for a wild object.
use Rattle.vm_system.proofs.Common.{Bool, Command, Event, HasPageOf, Header, HostId, IsWord, List, MakesNoControl, Message, None, ObjectId, Option, Outside}
use Rattle.vm_system.proofs.Common.{Some, [], arith, clean_head, code_where, false, head, inl, inr, is_idle, is_none, is_wild, kind_of, known_below, length}
use Rattle.vm_system.proofs.Common.{live_control, never, not, refl, refusal, same_Some, subst, true, ℕ, ◌<◌, ◌∷◌, ◌≡◌, ◌≤◌, ◌⊎◌}
use Rattle.vm_base.specs.declared.code.Code.TheVariants as code
use Rattle.vm_base.specs.declared.ids.ObjectKind.{ObjectKind}
use Rattle.vm_base.specs.declared.ids.ObjectKind.TheVariants as kinds
use Rattle.vm_legal.specs.Follows.{say_head, cache_head}
use Rattle.vm_legal.specs.Licences.{PagerSends, Says}
use Rattle.vm_legal.specs.Outside.{is_wild_kind}
use Rattle.vm_model.specs.Ranges.{InRange, IsSaid}
use Rattle.vm_model.specs.declared.command.Command.TheVariants as command
use Rattle.vm_model.specs.declared.event.Event.TheVariants as event
use Rattle.vm_model.specs.declared.message.Channel.TheVariants.{Down}
use Rattle.vm_model.specs.declared.message.Message.TheVariants as message
use Rattle.vm_system.proofs.Cleaning.{IsAsked, asked_none, asked_one, asked_stay, cached_file, cleaned_file}
use Rattle.vm_system.proofs.Sayings.{never_shared, sent_down}
use Rattle.vm_system.proofs.TakenWild.{wild_unshared}

-- a kernel knows what a script may say
said_word : (size : ℕ) (m : Message) → IsSaid size m → IsWord size m
said_word size (message.Ready cache strategy) is = tt
said_word size (message.Supply page lock precious bytes) is = let few = is.1 in (omega (arith, few), is.2)
said_word size (message.Unavailable page) is = tt
said_word size (message.Error page reason) is = tt
said_word size (message.Attributes cache strategy reply) is = tt
said_word size (message.Destroy reason) is = tt
said_word size (message.Lock page count returns flush lock reply) is = let few = is.2 in (omega (arith, few), locks is.3)
  where
    locks : (lock ≤ 3) ⊎ (lock ≡ 8) → (lock < 4) ⊎ (lock ≡ 8)
    locks (inl low) = inl (omega (arith, low))
    locks (inr none) = inr none
said_word size m is = absurd is

pub said_page : (size : ℕ) (m : Message) → IsSaid size m → HasPageOf size m
said_page size (message.Supply page lock precious bytes) is = is.2
said_page size (message.Ready cache strategy) is = tt
said_page size (message.Unavailable page) is = tt
said_page size (message.Error page reason) is = tt
said_page size (message.Attributes cache strategy reply) is = tt
said_page size (message.Destroy reason) is = tt
said_page size (message.Lock page count returns flush lock reply) is = tt
said_page size m is = absurd is

-- it makes no control
said_quiet : (size : ℕ) (host : HostId) (object : ObjectId) (control : ℕ) (m : Message) → IsSaid size m
    → MakesNoControl (event.Sent (Down host object control) m)
said_quiet size host object control (message.Supply page lock precious bytes) is = tt
said_quiet size host object control (message.Ready cache strategy) is = tt
said_quiet size host object control (message.Unavailable page) is = tt
said_quiet size host object control (message.Error page reason) is = tt
said_quiet size host object control (message.Attributes cache strategy reply) is = tt
said_quiet size host object control (message.Destroy reason) is = tt
said_quiet size host object control (message.Lock page count returns flush lock reply) is = tt
said_quiet size host object control m is = absurd is

-- what is said is said to a control that lives, of a wild object
pub record IsHeeded (header : Header) (host : HostId) (object : ObjectId) (past : List Event) : Type 0 where
  pub control : ℕ
  pub lives : live_control host.0 object.0 past ≡ Some control
  pub wild : is_wild header object.0 ≡ true

pub heeded : (header : Header) (past : List Event) (host : HostId) (object : ObjectId) (m : Message) → refusal header past (command.Say host object m) ≡ None
    → IsHeeded header host object past
heeded header past host object m accepted = by (live_control host.0 object.0 past) (is_wild header object.0) refl refl accepted
  where
    by : (live : Option ℕ) (wild : Bool) → live_control host.0 object.0 past ≡ live → is_wild header object.0 ≡ wild
        → code_where (is_none live) code.NoSuchName (code_where (not wild) code.InvalidArgument None) ≡ None → IsHeeded header host object past
    by None wild none is accepted = absurd (let bad : Some code.NoSuchName ≡ None = accepted in cc)
    by (Some control) true lives is accepted = record { control = control; lives = lives; wild = is }
    by (Some control) false lives is accepted = absurd (let bad : Some code.InvalidArgument ≡ None = accepted in cc)

-- the script speaks for its pager
wild_sends : (header : Header) (outside : Outside) (why : Command) (host object control : ℕ) (m : Message) (past : List Event) → is_wild header object ≡ true
    → Says why host object control m past
    → PagerSends (kind_of header object) header outside why host object control m past
wild_sends header outside why host object control m past wild says = by (kind_of header object) wild
  where
    by : (kind : ObjectKind) → is_wild_kind kind ≡ true → PagerSends kind header outside why host object control m past
    by kinds.Temp is = never is
    by kinds.File is = never is
    by kinds.Shared is = never is
    by kinds.Wild is = says

asked_said : (header : Header) (outside : Outside) (host : HostId) (object : ObjectId) (m : Message) (line : ℕ) (h : List Event)
    → InRange header (command.Say host object m) → (heed : IsHeeded header host object h)
    → IsAsked header outside (command.Say host object m) (event.Line line ∷ h) (event.Sent (Down host object heed.control) m ∷ [])
asked_said header outside host object m line h range heed =
    let plain = wild_unshared header object.0 heed.wild in
    record {
      back = refl;
      licensed = (
        (
          wild_sends header outside (command.Say host object m) host.0 object.0 heed.control m (event.Line line ∷ h) heed.wild
              (refl, refl, refl, heed.lives, refl),
          tt,
        ),
        tt,
      );
      own_bytes = (tt, tt);
      frames = λ now. (now, tt);
      inner = (tt, tt);
      nobodys = (tt, tt);
      controls = (said_quiet header.size host object heed.control m range.2, tt);
      spared = (tt, tt);
      silent = (plain, tt);
      orderly =
          λ orderly. sent_down header host.0 object heed.control m (event.Line line ∷ h) orderly range.0 (said_word header.size m range.2)
          (λ shared. never_shared header object.0 plain shared) (λ shared. never_shared header object.0 plain shared);
      can = λ orderly. ((said_page header.size m range.2, ((orderly.made host.0 object.0).live heed.control heed.lives).1), tt);
    }

pub asked_fine : (header : Header) (outside : Outside) (doing : Command) (line : ℕ) (h asked : List Event) → InRange header doing
    → refusal header h doing ≡ None → is_idle doing ≡ true → head header h doing ≡ Some asked
    → IsAsked header outside doing (event.Line line ∷ h) asked
asked_fine header outside (command.FailFiles count) line h asked range accepted idle is =
    subst (λ (z : List Event). IsAsked header outside (command.FailFiles count) (event.Line line ∷ h) z) (same_Some [] asked is)
    (asked_none header outside (command.FailFiles count) (event.Line line ∷ h))
asked_fine header outside (command.FailPaging count) line h asked range accepted idle is =
    subst (λ (z : List Event). IsAsked header outside (command.FailPaging count) (event.Line line ∷ h) z) (same_Some [] asked is)
    (asked_none header outside (command.FailPaging count) (event.Line line ∷ h))
asked_fine header outside (command.Clean object page count flush) line h asked range accepted idle is =
    subst (λ (z : List Event). IsAsked header outside (command.Clean object page count flush) (event.Line line ∷ h) z)
    (same_Some (clean_head object page count flush (known_below (length header.frames.items) object.0 h)) asked is)
    (asked_one header outside object page count flush line h (known_below (length header.frames.items) object.0 h)
    (cleaned_file header h object page count flush accepted) refl)
asked_fine header outside (command.Cache object cache) line h asked range accepted idle is =
    subst (λ (z : List Event). IsAsked header outside (command.Cache object cache) (event.Line line ∷ h) z)
    (same_Some (cache_head object cache (known_below (length header.frames.items) object.0 h)) asked is)
    (asked_stay header outside object cache line h (known_below (length header.frames.items) object.0 h) (cached_file header h object cache accepted) refl)
asked_fine header outside (command.Say host object m) line h asked range accepted idle is =
    let heed = heeded header h host object m accepted in
    let said : say_head host object m (Some heed.control) ≡ Some asked = rw heed.lives at is in
    subst (λ (z : List Event). IsAsked header outside (command.Say host object m) (event.Line line ∷ h) z)
    (same_Some (event.Sent (Down host object heed.control) m ∷ []) asked said) (asked_said header outside host object m line h range heed)
asked_fine header outside other line h asked range accepted idle is = absurd (let bad : false ≡ true = idle in cc)
