-- What an answer leaves of all pages.
use Rattle.std.proofs.Common.{◌≡◌, ◌==◌, ℕ, List, [], ◌∷◌, ◌++◌, refl, subst, sym, ◌∙◌, Bool, true, false, if◌then◌else◌, arith, ⊎_elim}
use Rattle.std.proofs.lemmas.Bool.{cases_Bool, false≢true}
use Rattle.std.proofs.lemmas.Bool.Decides.{nat_tests}
use Rattle.sms_pages.specs.Stands.{Hears, StandsFor}
use Rattle.vm_base.specs.declared.ids.ObjectId.{ObjectId}
use Rattle.vm_legal.specs.InTurn.{AllInTurn, AllRecalled}
use Rattle.vm_legal.specs.Outside.{Outside, Untold, is_shared}
use Rattle.vm_model.specs.PagePart.{page_part}
use Rattle.vm_model.specs.Words.{OtherUp, Readying, SentDown, Act, in_range, up_word}
use Rattle.vm_model.specs.declared.command.Command.{Command}
use Rattle.vm_model.specs.declared.command.Command.TheVariants as command
use Rattle.vm_model.specs.declared.event.Event.{Event}
use Rattle.vm_model.specs.declared.message.Message.{Message}
use Rattle.vm_model.specs.declared.message.Message.TheVariants as message
use Rattle.vm_model.specs.declared.script.Header.{Header}
use Rattle.sms_server.proofs.Acting.{AreFree, foreign_taken, free_if, step_act}
use Rattle.sms_server.proofs.Quiet.{StillServed, hears_quiet, stands_quiet, still_quiet, still_same}
use Rattle.sms_server.proofs.Serving.{Asked, Done, HasAnswered, InTurn, answered_free, in_turn, one_answers, same_stands, sends, stretches_free, taken}
use Rattle.sms_server.specs.Answers.{AnswerEvents, AnswersInTurn, IsToServer, is_among, page_events, sent_to, stretches}
use Rattle.sms_server.specs.Stands.{ServerServes, ServerStands, taking}
use Rattle.vm_legal.specs.Prompt.{AllServed}
use Rattle.sms_server.specs.Table.{ServerTable, directory_at, heard_at}

silent : (old : ServerTable) (h : ℕ) (object : ObjectId) (m : Message) (q : ℕ) → up_word q m ≡ OtherUp → page_events old h object m q ≡ []
silent old h object m q other = rw other refl

no_first : (p q : ℕ) → is_among q (p ∷ []) ≡ false → (p == q) ≡ false
no_first p q is = by (p == q) is
  where
    by : (b : Bool) → (if b then true else false) ≡ false → b ≡ false
    by true is = is
    by false is = is

abbrev pub is_init : Message → Bool
is_init (message.Init control size) = true
is_init m = false

-- all messages but an init are answered by pages in their turn
pub turns : (old : ServerTable) (h : ℕ) (object : ObjectId) (m : Message) (events : List Event) → IsToServer m → is_init m ≡ false
    → AnswerEvents old h object m events → AnswersInTurn old h object m events
turns old h object (message.Init control size) events to other is = absurd (false≢true (sym other))
turns old h object (message.Create control size) events to other is = record { pages = []; rising = tt; silent = λ p none. refl; are = is }
turns old h object (message.Request control page access) events to other is = record {
  pages = page.0 ∷ [];
  rising = (omega arith, tt);
  silent = λ q none. silent old h object (message.Request control page access) q (rw (no_first page.0 q none) refl);
  are = is;
}
turns old h object (message.Unlock control page access) events to other is = record {
  pages = page.0 ∷ [];
  rising = (omega arith, tt);
  silent = λ q none. silent old h object (message.Unlock control page access) q (rw (no_first page.0 q none) refl);
  are = is;
}
turns old h object (message.Return control page dirty keep bytes) events to other is = record {
  pages = page.0 ∷ [];
  rising = (omega arith, tt);
  silent = λ q none. silent old h object (message.Return control page dirty keep bytes) q (rw (no_first page.0 q none) refl);
  are = is;
}
turns old h object (message.Completed control page count) events to other is = record {
  pages = page.0 ∷ [];
  rising = (omega arith, tt);
  silent =
      λ q none. let apart = no_first page.0 q none in let out : in_range q page.0 count ≡ false = grind (arith, nat_tests) in silent old h object
      (message.Completed control page count) q (rw out refl);
  are = is;
}
turns old h object (message.Terminate control) events to other is = is
turns old h object (message.Changed control cache strategy) events to other is = record { pages = []; rising = tt; silent = λ p none. refl; are = is }
turns old h object (message.Ready cache strategy) events to other is = absurd to
turns old h object (message.Supply page lock precious bytes) events to other is = absurd to
turns old h object (message.Unavailable page) events to other is = absurd to
turns old h object (message.Error page reason) events to other is = absurd to
turns old h object (message.Lock page count returns flush lock reply) events to other is = absurd to
turns old h object (message.Attributes cache strategy reply) events to other is = absurd to
turns old h object (message.Destroy reason) events to other is = absurd to

-- what the pages were in front of the step
abbrev pub parts : Header → ObjectId → List Event → ℕ → List Act
parts header object past p = page_part header.size object.0 p past

-- what an answer leaves: of each page of its object, and of those of others
pub record Whole (header : Header) (outside : Outside) (doing : Command) (h : ℕ) (past : List Event) (object : ObjectId) (m : Message) (old new : ServerTable)
    (events : List Event) : Type 0 where
  pub own : (q : ℕ) → Done header h object m old new (parts header object past) q (events ++ taking h object m past)
  pub foreign : (o q : ℕ) → (object.0 == o) ≡ false → AreFree header.size o q events (taking h object m past)
  pub licensed : AllInTurn header outside doing events (taking h object m past)

asked : (header : Header) (h : ℕ) (past : List Event) (object : ObjectId) (m : Message) (old new : ServerTable) (events : List Event)
    → ServerServes header h past object m old new events → Asked header h object m old new (parts header object past)
asked header h past object m old new events s = record { shared = s.shared; after = λ p. let a = s.answered.pages p in a.directory }

-- a page that has nothing to say
at_once : (header : Header) (outside : Outside) (doing : Command) (h : ℕ) (past : List Event) (object : ObjectId) (m : Message) (old new : ServerTable)
    (events : List Event) → ServerServes header h past object m old new events → (q : ℕ)
    → page_events old h object m q ≡ [] → Done header h object m old new (parts header object past) q (taking h object m past)
at_once header outside doing h past object m old new events s q none =
    let one = one_answers header outside doing h object m old new (parts header object past) q (taking h object m past)
    (asked header h past object m old new events s) refl (taken header h past object m old new events s q) in
    subst (λ (es : List Event). Done header h object m old new (parts header object past) q (es ++ taking h object m past)) none one.0

whole_turn : (header : Header) (outside : Outside) (doing : Command) (h : ℕ) (past : List Event) (object : ObjectId) (m : Message) (old new : ServerTable)
    (events : List Event) → ServerServes header h past object m old new events
    → AnswersInTurn old h object m events → Whole header outside doing h past object m old new events
whole_turn header outside doing h past object m old new events s t =
    subst (Whole header outside doing h past object m old new) (sym t.are) (record {
      own = λ q. ⊎_elim
          (λ (is : is_among q t.pages ≡ true). all.done q is)
          (λ (none : is_among q t.pages ≡ false).
          answered_free header.size (directory_at new object.0 q) _ (parts header object past q) object.0 q (stretches old h object m t.pages) first
          (stretches_free header.size h object.0 q object m old t.pages first (λ own. none))
          (at_once header outside doing h past object m old new events s q (t.silent q none)))
          (cases_Bool (is_among q t.pages));
      foreign = λ o q apart. stretches_free header.size h o q object m old t.pages first (λ same. absurd (apart_not object.0 o apart same));
      licensed = all.licensed;
    })
  where
    first : List Event
    first = taking h object m past

    apart_not : (a b : ℕ) → (a == b) ≡ false → a ≡ b → ⊥
    apart_not a b apart same = grind (arith, nat_tests)

    all : InTurn header outside doing h object m old new (parts header object past) t.pages first
    all =
        in_turn header outside doing h object m old new (parts header object past) 0 t.pages first (asked header h past object m old new events s) t.rising refl
        (λ q high. taken header h past object m old new events s q)

whole_ready : (header : Header) (outside : Outside) (doing : Command) (h : ℕ) (past : List Event) (object : ObjectId) (control size : ℕ) (old new : ServerTable)
    (events : List Event) → ServerServes header h past object (message.Init control size) old new events
    → events ≡ sent_to (record { 0 = h }) object control (message.Ready false 0) ∷ []
    → Whole header outside doing h past object (message.Init control size) old new events
whole_ready header outside doing h past object control size old new events s is =
    subst (Whole header outside doing h past object m old new) (sym is) (record {
      own =
          λ q. answered_free header.size (directory_at new object.0 q) _ (parts header object past q) object.0 q (ready ∷ []) first (free object.0 q)
          (at_once header outside doing h past object m old new events s q refl);
      foreign = λ o q apart. free o q;
      licensed = ((sends header outside doing h object control (message.Ready false 0) first s.shared (size, refl, refl, refl, refl), tt), tt);
    })
  where
    m : Message
    m = message.Init control size

    first : List Event
    first = taking h object (message.Init control size) past

    ready : Event
    ready = sent_to (record { 0 = h }) object control (message.Ready false 0)

    free : (o q : ℕ) → AreFree header.size o q (sent_to (record { 0 = h }) object control (message.Ready false 0) ∷ [])
        (taking h object (message.Init control size) past)
    free o q = (free_if (object.0 == o) h (SentDown control Readying) (λ same. refl), tt)

pub whole : (header : Header) (outside : Outside) (doing : Command) (h : ℕ) (past : List Event) (object : ObjectId) (m : Message) (old new : ServerTable)
    (events : List Event) → ServerServes header h past object m old new events
    → Whole header outside doing h past object m old new events
whole header outside doing h past object (message.Init control size) old new events s =
    whole_ready header outside doing h past object control size old new events s s.answered.told
whole header outside doing h past object m old new events s =
    whole_turn header outside doing h past object m old new events s (turns old h object m events s.to_server refl s.answered.told)

-- a page of another object
record Elsewhere (header : Header) (h : ℕ) (past : List Event) (object : ObjectId) (m : Message) (old new : ServerTable) (events : List Event) (o p : ℕ) : Type
    0 where
  stands : StandsFor header.size (directory_at new o p) (page_part header.size o p (events ++ taking h object m past))
  hears : Hears (heard_at new o p) (page_part header.size o p (events ++ taking h object m past))
  served : StillServed (page_part header.size o p past) (page_part header.size o p (events ++ taking h object m past))

same_hears : (old new : ℕ → ℕ) (part : List Act) → ((g : ℕ) → new g ≡ old g) → Hears old part → Hears new part
same_hears old new part same hears g = same g ∙ hears g

elsewhere : (header : Header) (h : ℕ) (past : List Event) (object : ObjectId) (m : Message) (old new : ServerTable) (events : List Event) (o p : ℕ)
    → ServerServes header h past object m old new events
    → AreFree header.size o p events (taking h object m past) → is_shared header o ≡ true → (object.0 == o) ≡ false
    → Elsewhere header h past object m old new events o p
elsewhere header h past object m old new events o p s free shared apart =
    let part = page_part header.size o p past in
    let same = s.answered.others o p (λ e. let is = sym e in grind (arith, nat_tests)) in
    let now : HasAnswered header.size (directory_at new o p) (heard_at new o p) part (step_act h ∷ part) = record {
      stands =
          same_stands header.size (directory_at old o p) (directory_at new o p) (step_act h ∷ part) same.directory
          (stands_quiet header.size (directory_at old o p) (step_act h) part refl (s.stands.pages o p shared));
      hears =
          same_hears (heard_at old o p) (heard_at new o p) (step_act h ∷ part) same.heard
          (hears_quiet (heard_at old o p) (step_act h) part refl (s.stands.heard o p shared));
      served = still_quiet (step_act h) part part refl (still_same part);
    } in
    let first = subst (HasAnswered header.size (directory_at new o p) (heard_at new o p) part) (sym (foreign_taken header.size h o p object m past apart))
    now in
    let all = answered_free header.size (directory_at new o p) (heard_at new o p) part o p events (taking h object m past) free first in
    record { stands = all.stands; hears = all.hears; served = all.served }

own_page : (header : Header) (outside : Outside) (doing : Command) (h : ℕ) (past : List Event) (object : ObjectId) (m : Message) (old new : ServerTable)
    (events : List Event) (p : ℕ) → ServerServes header h past object m old new events
    → Whole header outside doing h past object m old new events → Elsewhere header h past object m old new events object.0 p
own_page header outside doing h past object m old new events p s w =
    let done = w.own p in
    let after = s.answered.pages p in
    record { stands = done.stands; hears = same_hears _ (heard_at new object.0 p) _ after.heard done.hears; served = done.served }

each_page : (header : Header) (outside : Outside) (doing : Command) (h : ℕ) (past : List Event) (object : ObjectId) (m : Message) (old new : ServerTable)
    (events : List Event) (o p : ℕ) → ServerServes header h past object m old new events
    → Whole header outside doing h past object m old new events → is_shared header o ≡ true → Elsewhere header h past object m old new events o p
each_page header outside doing h past object m old new events o p s w shared =
    ⊎_elim
    (λ (same : (object.0 == o) ≡ true). let e : object.0 ≡ o = grind (arith, nat_tests, same) in subst
    (λ (q : ℕ). Elsewhere header h past object m old new events q p) e (own_page header outside doing h past object m old new events p s w))
    (λ (apart : (object.0 == o) ≡ false). elsewhere header h past object m old new events o p s (w.foreign o p apart) shared apart)
    (cases_Bool (object.0 == o))

-- whatever is told of the outside, and whatever the command is
any_outside : Outside
any_outside = record { files = Untold; paging = false }

any_command : Command
any_command = command.Settle 0

pub stands : (header : Header) (h : ℕ) (past : List Event) (object : ObjectId) (m : Message) (old new : ServerTable) (events : List Event)
    → ServerServes header h past object m old new events
    → ServerStands header new (events ++ taking h object m past)
stands header h past object m old new events s =
    let w = whole header any_outside any_command h past object m old new events s in
    record {
      size = s.answered.size ∙ s.stands.size;
      pages = λ o p shared. let page = each_page header any_outside any_command h past object m old new events o p s w shared in page.stands;
      heard = λ o p shared. let page = each_page header any_outside any_command h past object m old new events o p s w shared in page.hears;
    }

pub served : (header : Header) (h : ℕ) (past : List Event) (object : ObjectId) (m : Message) (old new : ServerTable) (events : List Event)
    → ServerServes header h past object m old new events → AllServed header past
    → AllServed header (events ++ taking h object m past)
served header h past object m old new events s was o p shared =
    let w = whole header any_outside any_command h past object m old new events s in
    let page = each_page header any_outside any_command h past object m old new events o p s w shared in
    page.served.somebody (was o p shared)

pub recalled : (header : Header) (h : ℕ) (past : List Event) (object : ObjectId) (m : Message) (old new : ServerTable) (events : List Event)
    → ServerServes header h past object m old new events → AllRecalled header past
    → AllRecalled header (events ++ taking h object m past)
recalled header h past object m old new events s was o p host w shared front way =
    let all = whole header any_outside any_command h past object m old new events s in
    let page = each_page header any_outside any_command h past object m old new events o p s all shared in
    page.served.recalled (λ g v at stands. was o p g v shared at stands) host w front way

pub causes : (header : Header) (outside : Outside) (doing : Command) (h : ℕ) (past : List Event) (object : ObjectId) (m : Message) (old new : ServerTable)
    (events : List Event) → ServerServes header h past object m old new events
    → AllInTurn header outside doing events (taking h object m past)
causes header outside doing h past object m old new events s = let w = whole header outside doing h past object m old new events s in w.licensed
