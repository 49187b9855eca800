-- A message about a wild object is taken, and nobody answers: what its pager says is the script's.
use Rattle.vm_system.proofs.Common.{Bool, Channel, ChannelId, Down, Followed, Header, HostId, IsPaid, Letter, MayTakeFrom, Message, None, ObjectId, Option}
use Rattle.vm_system.proofs.Common.{PagerHasAnswered, Some, Spares, State, Step, Took, Up, [], ap, arith, false, first, gives_frame, if◌then◌else◌, is_file}
use Rattle.vm_system.proofs.Common.{is_paged, is_shared, is_wild, named, nat_lt, nat_tests, never, no_request, none-some, not, queue, refl, subst, sym, true, ℕ}
use Rattle.vm_system.proofs.Common.{◌&&◌, ◌||◌, ◌∙◌, ◌∷◌, ◌≡◌}
use Rattle.vm_base.specs.declared.ids.ObjectKind.{ObjectKind}
use Rattle.vm_base.specs.declared.ids.ObjectKind.TheVariants as kinds
use Rattle.vm_legal.specs.Outside.{is_file_kept, is_file_kind, is_shared_kind, is_wild_kind, kind_in}
use Rattle.vm_model.specs.Named.{declared}
use Rattle.vm_model.specs.declared.event.Device.TheVariants.{Files}
use Rattle.vm_model.specs.declared.event.Event.TheVariants as event
use Rattle.vm_model.specs.declared.script.Declared.{Declared}
use Rattle.vm_system.proofs.Letters.{orderly_taken}
use Rattle.vm_system.proofs.Taken.{front_of}
use Rattle.vm_legal.proofs.Unshared.{wild_named}
use Rattle.vm_system.proofs.Replied.{AnswerKeeps, Replied, answered, files_apart, going, paged_apart, spares_files, spares_paging, stands_unshared, took}
use Rattle.vm_legal.proofs.Locks.{no_change}

-- a wild object is declared, and neither a file nor shared

wild_plain : (kind : ObjectKind) → is_wild_kind kind ≡ true → (is_shared_kind kind ≡ false) × (is_file_kind kind ≡ false)
wild_plain kinds.Temp is = never is
wild_plain kinds.File is = never is
wild_plain kinds.Shared is = never is
wild_plain kinds.Wild is = (refl, refl)

pub wild_unshared : (header : Header) (o : ℕ) → is_wild header o ≡ true → is_shared header o ≡ false
wild_unshared header o wild = (wild_plain _ wild).0

pub wild_unfiled : (header : Header) (o : ℕ) → is_wild header o ≡ true → is_file header o ≡ false
wild_unfiled header o wild = by (nat_lt o (named header)) (declared header o) wild
  where
    by : (b : Bool) (row : Option Declared) → is_wild_kind (if b then kind_in row else kinds.Temp) ≡ true → b && is_file_kept row ≡ false
    by true None wild = refl
    by true (Some object) wild = (wild_plain object.kind wild).1
    by false row wild = refl

wild_unpaged : (header : Header) (o : ℕ) → is_wild header o ≡ true → is_paged header o ≡ false
wild_unpaged header o wild = by (nat_lt o (named header)) (is_file header o) low (wild_unfiled header o wild)
  where
    low : nat_lt o (named header) ≡ true
    low = let below = wild_named header o wild in grind (arith, nat_tests, below)

    by : (b c : Bool) → b ≡ true → c ≡ false → not b || c ≡ false
    by true c low none = none
    by false c low none = never low

-- a message about a wild object that stands in front: its answer is none
pub record Heard (given : Step) (host : HostId) (object : ObjectId) (m : Message) (s : State) : Type 0 where
  pub reply : Replied Files given host object m s []
  pub wild : is_wild given.header object.0 ≡ true

pub heard_of : (given : Step) (line : Option ℕ) (number : ChannelId) (host : HostId) (object : ObjectId) (m : Message) (s : State)
    → MayTakeFrom given line number (Up host object) s → is_wild given.header object.0 ≡ true
    → first (queue (Up host object) given.past) ≡ Some m → Heard given host object m s
heard_of given line number host object m s may wild head =
    record {
      reply = record {
        front = front_of given line number (Up host object) s may;
        head = head;
        may = may.may;
        replies = tt;
        about = tt;
        licensed = tt;
      };
      wild = wild;
    }

-- its taking owes nothing

abbrev object_in : Channel → ℕ
object_in (Up host object) = object.0
object_in (Down host object control) = object.0

abbrev object_up : Option Letter → ℕ
object_up None = 0
object_up (Some letter) = object_in letter.channel

pub paid_wild : (given : Step) (host : HostId) (object : ObjectId) (m : Message) (s : State) → Heard given host object m s
    → IsPaid given.header (event.Taken (Up host object) m ∷ given.past)
paid_wild given host object m s heard = record {
  none_owed = refl;
  init = λ at o control size tame is. never (sym tame ∙ its o (ap object_up is));
  create = λ at o control size tame is. never (sym tame ∙ its o (ap object_up is));
  request = λ at o control page access paged is. never (sym (unpaged o (ap object_up is)) ∙ paged);
  error = λ at o page is. absurd (none-some _ is);
  absence = λ at o page low is. absurd (none-some _ is);
  lock = λ request is. no_request request (event.Taken (Up host object) m ∷ given.past) refl is;
  change = λ request is wanted. no_change request (event.Taken (Up host object) m ∷ given.past) refl is;
  destroy = λ at o tame is. absurd (none-some _ is);
  slot =
      λ at o control page dirty keep bytes high is lacks. let low = wild_named given.header o (its o (ap object_up is)) in absurd (omega (arith, low, high));
}
  where
    its : (o : ℕ) → object.0 ≡ o → is_wild given.header o ≡ true
    its o same = subst (λ (n : ℕ). is_wild given.header n ≡ true) same heard.wild

    unpaged : (o : ℕ) → object.0 ≡ o → is_paged given.header o ≡ false
    unpaged o same = wild_unpaged given.header o (its o same)

-- no other pager has a part in it
pub spares_wild : (given : Step) (line : Option ℕ) (number : ChannelId) (host : HostId) (object : ObjectId) (m : Message) (s now : State)
    → MayTakeFrom given line number (Up host object) s → Heard given host object m s
    → now.pagers.items ≡ s.pagers.items → now.files.items ≡ s.files.items → now.history.items ≡ event.Taken (Up host object) m ∷ given.past
    → Spares given.header given.outside s now
spares_wild given line number host object m s now may heard pagers files items = record {
  paging =
      spares_paging Files given line number host object m s now [] may heard.reply (wild_named given.header object.0 heard.wild) refl pagers items;
  files = spares_files Files given line number host object m s now [] may heard.reply (wild_unfiled given.header object.0 heard.wild) refl files items;
}

-- the hosts' part begins
pub answered_wild : (given : Step) (host : HostId) (object : ObjectId) (m : Message) (s now : State) → Heard given host object m s
    → now.pagers.items ≡ s.pagers.items → now.files.items ≡ s.files.items → now.server ≡ s.server
    → AnswerKeeps given.header s now (event.Taken (Up host object) m ∷ given.past)
    → PagerHasAnswered (going given host object m []) host (gives_frame m) now
answered_wild given host object m s now heard pagers files server keeps =
    let header = given.header in
    answered Files given host object m s now [] heard.reply
    (stands_unshared Files given host object m s now [] heard.reply (wild_unshared header object.0 heard.wild)
    (rw pagers (paged_apart Files given host object m s [] heard.reply (wild_named header object.0 heard.wild)))
    (rw files (files_apart Files given host object m s [] heard.reply (wild_unfiled header object.0 heard.wild))) server
    (orderly_taken header (Up host object) m given.past heard.reply.front.orderly heard.reply.head) (paid_wild given host object m s heard)) keeps

-- the hosts went on
pub took_wild : (given : Step) (host : HostId) (object : ObjectId) (m : Message) (s new : State) → Heard given host object m s
    → Followed (going given host object m []) new → Took given new
took_wild given host object m s new heard followed = took Files given host object m s new [] heard.reply followed
