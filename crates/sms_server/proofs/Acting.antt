-- What events are to a page of a shared object.
use Rattle.std.proofs.Common.{◌≡◌, ◌==◌, ◌&&◌, ℕ, List, [], ◌∷◌, ◌++◌, refl, ap, subst, sym, ◌∙◌, Bool, true, false, if◌then◌else◌, arith, append_assoc, ⊎_elim}
use Rattle.std.proofs.lemmas.Bool.{cases_Bool, false≢true}
use Rattle.std.proofs.lemmas.Bool.Decides.{nat_tests}
use Rattle.sms_pages.specs.Stands.{reply_act, reply_acts, taking_act}
use Rattle.sms_pages.specs.declared.reply.Reply.{Reply}
use Rattle.sms_pages.specs.declared.reply.Reply.TheVariants.{Supply, Flush, CleanLock, Unlock}
use Rattle.vm_base.specs.declared.ids.ObjectId.{ObjectId}
use Rattle.vm_legal.proofs.Answering.{itself}
use Rattle.vm_legal.specs.InTurn.{AllRecalled}
use Rattle.vm_legal.specs.Outside.{is_shared}
use Rattle.vm_model.specs.PageLicences.{ActsLicensed}
use Rattle.vm_model.specs.PagePart.{page_part}
use Rattle.vm_model.specs.Side.{side}
use Rattle.vm_model.specs.TaskPlace.{means_page, task_host}
use Rattle.vm_model.specs.Words.{Supplying, Locking, Lacking, Failing, Readying, OtherDown, ActEffect, Opens, SendsUp, TakenUp, SentDown, TakesDown, Puts}
use Rattle.vm_model.specs.Words.{Drops, Begins, Loads, Stores, Fails, BeginsCopy, Copies, EndsCopy, StepBegins, Nothing, Act, act_if, act_of, down_word}
use Rattle.vm_model.specs.Words.{in_range, sent_act_effect, up_word}
use Rattle.vm_model.specs.declared.event.Event.{Event}
use Rattle.vm_model.specs.declared.event.Event.TheVariants as event
use Rattle.vm_model.specs.declared.message.Channel.TheVariants.{Up, Down}
use Rattle.vm_model.specs.declared.message.Message.{Message}
use Rattle.vm_model.specs.declared.message.Message.TheVariants as message
use Rattle.vm_model.specs.declared.script.Header.{Header}
use Rattle.sms_server.proofs.Quiet.{hears_quiet, is_word, recalled_quiet, served_quiet, stands_quiet}
use Rattle.sms_server.specs.Answers.{page_no, reply_events, reply_host, reply_message}
use Rattle.sms_server.specs.Stands.{IsOther, ServerStands, taking}
use Rattle.vm_legal.specs.Prompt.{AllServed}
use Rattle.sms_server.specs.Table.{ServerTable, directory_at, heard_at}

-- what an event is to a page, behind a past
abbrev pub act_in : ℕ → ℕ → ℕ → Event → List Event → Act
act_in size o p e past =
    act_of size o p (λ task. task_host task past) (λ task address. means_page size o p task address past)
    (λ host object page. (side host (page_part size object page past)).bytes) e

quiet_if : (b : Bool) (h : ℕ) (e : ActEffect) → is_word e ≡ false → is_word (act_if b h e).effect ≡ false
quiet_if true h e none = none
quiet_if false h e none = refl

quiet_else : (b : Bool) (e f : ActEffect) → is_word e ≡ false → is_word f ≡ false → is_word (if b then e else f) ≡ false
quiet_else true e f one two = one
quiet_else false e f one two = two

sent_quiet : (p : ℕ) (m : Message) → is_word (sent_act_effect p m) ≡ false
sent_quiet p (message.Init control size) = refl
sent_quiet p (message.Create control size) = refl
sent_quiet p (message.Request control page access) = refl
sent_quiet p (message.Unlock control page access) = refl
sent_quiet p (message.Return control page dirty keep bytes) = refl
sent_quiet p (message.Completed control page count) = refl
sent_quiet p (message.Terminate control) = refl
sent_quiet p (message.Ready cache strategy) = refl
sent_quiet p (message.Supply page lock precious bytes) = refl
sent_quiet p (message.Unavailable page) = refl
sent_quiet p (message.Error page reason) = refl
sent_quiet p (message.Lock page count returns flush lock reply) = refl
sent_quiet p (message.Attributes cache strategy reply) = refl
sent_quiet p (message.Destroy reason) = refl
sent_quiet p (message.Changed control cache strategy) = refl

-- a shared object is none that isn't
apart_from : (header : Header) (o q : ℕ) → is_shared header o ≡ true → is_shared header q ≡ false → (q == o) ≡ false
apart_from header o q shared other =
    ⊎_elim
    (λ (same : (q == o) ≡ true). let e : q ≡ o = grind (arith, nat_tests, same) in absurd (false≢true (sym other ∙ (ap (is_shared header) e ∙ shared))))
    (λ (no : (q == o) ≡ false). no)
    (cases_Bool (q == o))

quiet_other : (header : Header) (o p : ℕ) (host_of : ℕ → ℕ) (means : ℕ → ℕ → Bool) (held : ℕ → ℕ → ℕ → List ℕ) (e : Event) → is_shared header o ≡ true
    → IsOther header e
    → is_word (act_of header.size o p host_of means held e).effect ≡ false
quiet_other header o p host_of means held (event.Sent (Up host object) m) shared other = quiet_if (object.0 == o) host.0 (sent_act_effect p m) (sent_quiet p m)
quiet_other header o p host_of means held (event.Sent (Down host object control) m) shared other = rw (apart_from header o object.0 shared other) refl
quiet_other header o p host_of means held (event.Taken (Up host object) m) shared other = rw (apart_from header o object.0 shared other) refl
quiet_other header o p host_of means held (event.Taken (Down host object control) m) shared other =
    quiet_else (object.0 == o) (TakesDown control (down_word p m)) StepBegins refl refl
quiet_other header o p host_of means held (event.Dropped host object page) shared other = quiet_if (object.0 == o && page.0 == p) host.0 Drops refl
quiet_other header o p host_of means held (event.Zeroed host object page) shared other = quiet_if (object.0 == o && page.0 == p) host.0 _ refl
quiet_other header o p host_of means held (event.Raised host lower lower_page upper upper_page) shared other =
    quiet_if (upper.0 == o && upper_page.0 == p) host.0 _ refl
quiet_other header o p host_of means held (event.CopiedPage task page object object_page target) shared other =
    quiet_else (target.0 == o && page.0 == p) _ (if object.0 == o && object_page.0 == p then Copies task.0 else Nothing) refl
    (quiet_else (object.0 == o && object_page.0 == p) (Copies task.0) Nothing refl refl)
quiet_other header o p host_of means held (event.BegunLoad task address bytes) shared other = quiet_if (means task.0 address) (host_of task.0) _ refl
quiet_other header o p host_of means held (event.BegunStore task address bytes value) shared other = quiet_if (means task.0 address) (host_of task.0) _ refl
quiet_other header o p host_of means held (event.Loaded task object page value) shared other =
    quiet_if (object.0 == o && page.0 == p) (host_of task.0) (Loads task.0 value) refl
quiet_other header o p host_of means held (event.Stored task object page at bytes value) shared other =
    quiet_if (object.0 == o && page.0 == p) (host_of task.0) (Stores task.0 at bytes value) refl
quiet_other header o p host_of means held (event.Failed task object page) shared other =
    quiet_else (object.0 == o && page.0 == p) (Fails task.0) (EndsCopy task.0) refl refl
quiet_other header o p host_of means held e shared other = refl

pub quiet_event : (header : Header) (o p : ℕ) (e : Event) (past : List Event) → is_shared header o ≡ true → IsOther header e
    → is_word (act_in header.size o p e past).effect ≡ false
quiet_event header o p e past shared other =
    quiet_other header o p (λ task. task_host task past) (λ task address. means_page header.size o p task address past)
    (λ host object page. (side host (page_part header.size object page past)).bytes) e shared other

pub others_stand : (header : Header) (table : ServerTable) (e : Event) (past : List Event) → IsOther header e → ServerStands header table past
    → ServerStands header table (e ∷ past)
others_stand header table e past other s = record {
  size = s.size;
  pages =
      λ o p shared. stands_quiet header.size (directory_at table o p) (act_in header.size o p e past) (page_part header.size o p past)
      (quiet_event header o p e past shared other) (s.pages o p shared);
  heard =
      λ o p shared. hears_quiet (heard_at table o p) (act_in header.size o p e past) (page_part header.size o p past)
      (quiet_event header o p e past shared other) (s.heard o p shared);
}

pub others_serve : (header : Header) (e : Event) (past : List Event) → IsOther header e → AllServed header past → AllServed header (e ∷ past)
others_serve header e past other served o p shared =
    served_quiet (act_in header.size o p e past) (page_part header.size o p past) (quiet_event header o p e past shared other) (served o p shared)

pub others_recall : (header : Header) (e : Event) (past : List Event) → IsOther header e → AllRecalled header past → AllRecalled header (e ∷ past)
others_recall header e past other recalled o p host w shared front way =
    recalled_quiet (act_in header.size o p e past) (page_part header.size o p past) (quiet_event header o p e past shared other)
    (λ g v at stands. recalled o p g v shared at stands) host w front way

-- What the server takes, and what it sends.

abbrev pub step_act : ℕ → Act
step_act h = record { host = h; effect = StepBegins }

pub own_taken : (size h p : ℕ) (object : ObjectId) (m : Message) (past : List Event)
    → page_part size object.0 p (taking h object m past) ≡ taking_act h (up_word p m) ∷ page_part size object.0 p past
own_taken size h p object m past = rw (itself object.0) refl

pub foreign_taken : (size h o p : ℕ) (object : ObjectId) (m : Message) (past : List Event) → (object.0 == o) ≡ false
    → page_part size o p (taking h object m past) ≡ step_act h ∷ page_part size o p past
foreign_taken size h o p object m past apart = rw apart refl

-- the act is no word of the page, and anybody may do it
abbrev pub is_free : ActEffect → Bool
is_free (SentDown control OtherDown) = true
is_free (SentDown control Readying) = true
is_free Nothing = true
is_free e = false

pub free_quiet : (e : ActEffect) → is_free e ≡ true → is_word e ≡ false
free_quiet (SentDown control (Supplying lock precious bytes)) free = absurd (false≢true free)
free_quiet (SentDown control (Locking count returns flush lock reply)) free = absurd (false≢true free)
free_quiet (SentDown control Lacking) free = refl
free_quiet (SentDown control Failing) free = refl
free_quiet (SentDown control Readying) free = refl
free_quiet (SentDown control OtherDown) free = refl
free_quiet Nothing free = refl
free_quiet (TakenUp word) free = absurd (false≢true free)
free_quiet (Opens control ready) free = refl
free_quiet (SendsUp control word) free = refl
free_quiet (TakesDown control word) free = refl
free_quiet (Puts bytes dirty) free = refl
free_quiet Drops free = refl
free_quiet (Begins task store at size value) free = refl
free_quiet (Loads task value) free = refl
free_quiet (Stores task at size value) free = refl
free_quiet (Fails task) free = refl
free_quiet (BeginsCopy task times) free = refl
free_quiet (Copies task) free = refl
free_quiet (EndsCopy task) free = refl
free_quiet StepBegins free = refl

pub free_licensed : (size h : ℕ) (e : ActEffect) (past : List Act) → is_free e ≡ true → ActsLicensed size past
    → ActsLicensed size (record { host = h; effect = e } ∷ past)
free_licensed size h (SentDown control (Supplying lock precious bytes)) past free was = absurd (false≢true free)
free_licensed size h (SentDown control (Locking count returns flush lock reply)) past free was = absurd (false≢true free)
free_licensed size h (SentDown control Lacking) past free was = absurd (false≢true free)
free_licensed size h (SentDown control Failing) past free was = absurd (false≢true free)
free_licensed size h (SentDown control Readying) past free was = (tt, was)
free_licensed size h (SentDown control OtherDown) past free was = (tt, was)
free_licensed size h Nothing past free was = (tt, was)
free_licensed size h (TakenUp word) past free was = absurd (false≢true free)
free_licensed size h (Opens control ready) past free was = absurd (false≢true free)
free_licensed size h (SendsUp control word) past free was = absurd (false≢true free)
free_licensed size h (TakesDown control word) past free was = absurd (false≢true free)
free_licensed size h (Puts bytes dirty) past free was = absurd (false≢true free)
free_licensed size h Drops past free was = absurd (false≢true free)
free_licensed size h (Begins task store at bytes value) past free was = absurd (false≢true free)
free_licensed size h (Loads task value) past free was = absurd (false≢true free)
free_licensed size h (Stores task at bytes value) past free was = absurd (false≢true free)
free_licensed size h (Fails task) past free was = absurd (false≢true free)
free_licensed size h (BeginsCopy task times) past free was = absurd (false≢true free)
free_licensed size h (Copies task) past free was = absurd (false≢true free)
free_licensed size h (EndsCopy task) past free was = absurd (false≢true free)
free_licensed size h StepBegins past free was = absurd (false≢true free)

-- none of the events is a word of the page
abbrev pub AreFree : ℕ → ℕ → ℕ → List Event → List Event → Type 0
AreFree size o p [] past = Unit {0}
AreFree size o p (e ∷ es) past = (is_free (act_in size o p e (es ++ past)).effect ≡ true) × AreFree size o p es past

pub free_both : (size o p : ℕ) (later front past : List Event) → AreFree size o p later (front ++ past) → AreFree size o p front past
    → AreFree size o p (later ++ front) past
free_both size o p [] front past one two = two
free_both size o p (e ∷ es) front past one two = (
  subst (λ (l : List Event). is_free (act_in size o p e l).effect ≡ true) (sym (append_assoc es front past)) one.0,
  free_both size o p es front past one.1 two,
)

-- a reply of a page is a word of no other page
free_down : (p q : ℕ) (control : ℕ) (r : Reply) → (p == q) ≡ false → is_free (SentDown control (down_word q (reply_message (page_no p) r))) ≡ true
free_down p q control (Supply host lock bytes) apart = rw apart refl
free_down p q control (Flush host) apart = let out : in_range q p 1 ≡ false = grind (arith, nat_tests) in rw out refl
free_down p q control (CleanLock host) apart = let out : in_range q p 1 ≡ false = grind (arith, nat_tests) in rw out refl
free_down p q control (Unlock host) apart = let out : in_range q p 1 ≡ false = grind (arith, nat_tests) in rw out refl

pub free_if : (b : Bool) (h : ℕ) (e : ActEffect) → (b ≡ true → is_free e ≡ true) → is_free (act_if b h e).effect ≡ true
free_if true h e free = free refl
free_if false h e free = refl

pub replies_free : (size o q p : ℕ) (object : ObjectId) (heard : ℕ → ℕ) (rs : List Reply) (past : List Event) → (object.0 ≡ o → (p == q) ≡ false)
    → AreFree size o q (reply_events object (page_no p) heard rs) past
replies_free size o q p object heard [] past apart = tt
replies_free size o q p object heard (r ∷ rs) past apart = (
  free_if (object.0 == o) (reply_host r).0 (SentDown (heard (reply_host r).0) (down_word q (reply_message (page_no p) r)))
      (λ same. free_down p q (heard (reply_host r).0) r (apart (grind (arith, nat_tests, same)))),
  replies_free size o q p object heard rs past apart,
)

own_down : (p : ℕ) (heard : ℕ → ℕ) (r : Reply) → record {
  host = (reply_host r).0;
  effect = SentDown (heard (reply_host r).0) (down_word p (reply_message (page_no p) r));
} ≡ reply_act heard r
own_down p heard (Supply host lock bytes) = rw (itself p) refl
own_down p heard (Flush host) = let inside : in_range p p 1 ≡ true = grind (arith, nat_tests) in rw inside refl
own_down p heard (CleanLock host) = let inside : in_range p p 1 ≡ true = grind (arith, nat_tests) in rw inside refl
own_down p heard (Unlock host) = let inside : in_range p p 1 ≡ true = grind (arith, nat_tests) in rw inside refl

-- the page's own replies are its acts
pub own_replies : (size p : ℕ) (object : ObjectId) (heard : ℕ → ℕ) (rs : List Reply) (past : List Event)
    → page_part size object.0 p (reply_events object (page_no p) heard rs ++ past) ≡ reply_acts heard rs ++ page_part size object.0 p past
own_replies size p object heard [] past = refl
own_replies size p object heard (r ∷ rs) past =
    let rest = own_replies size p object heard rs past in
    rw (itself object.0, rest) (ap (λ (a : Act). a ∷ (reply_acts heard rs ++ page_part size object.0 p past)) (own_down p heard r))
