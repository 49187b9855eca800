-- Each event of an answer has its cause.
use Rattle.std.proofs.Common.{ℕ, ◌≡◌, ◌≤◌, ◌*◌, Bool, true, false, List, [], ◌∷◌, length, replicate, drop, Option, Some, None, refl, sym}
use Rattle.std.proofs.Common.{◌∙◌, ap, subst, arith, if◌then◌else◌, inl, inr}
use Rattle.std.proofs.lemmas.Bool.{false≢true}
use Rattle.std.proofs.lemmas.List.{take-replicate}
use Rattle.std.proofs.Math.ListN.{drop_of_length-le}
use Rattle.std.specs.Prelude.{unwrap_or}
use Rattle.pg_answers.specs.Answers.{error, supply}
use Rattle.vm_base.specs.declared.ids.PageNo.{PageNo}
use Rattle.vm_model.specs.declared.command.Command.{Command}
use Rattle.vm_model.specs.declared.event.Event.{Event}
use Rattle.vm_model.specs.declared.event.Event.TheVariants as event
use Rattle.vm_model.specs.declared.event.Way.TheVariants.{Read}
use Rattle.vm_model.specs.declared.message.Message.{Message}
use Rattle.vm_model.specs.declared.message.Message.TheVariants as message
use Rattle.vm_model.specs.declared.script.Header.{Header}
use Rattle.vm_legal.proofs.Answering.{itself, own_test}
use Rattle.vm_legal.proofs.PagerAnswers.{create_answered, init_answered, lost_answered}
use Rattle.vm_legal.proofs.Served.{paged_sends}
use Rattle.vm_legal.specs.Licences.{IsBehind, IsCache, IsClean, MaySendDown, PagerSends, pager_has, tells}
use Rattle.vm_legal.specs.InTurn.{AllInTurn}
use Rattle.vm_legal.specs.Outside.{Outside, FilesAtStart, is_file, kind_of, start_in, start_page}
use Rattle.vm_legal.specs.Pagers.{is_lost, known_control, last_return, newer}
use Rattle.vm_legal.specs.Steps.{just_begun}
use Rattle.vm_legal.proofs.Files.{file_paged}
use Rattle.vm_outside.specs.Areas.{read_at}
use Rattle.pg_file.specs.declared.pager.KnownControl.{KnownControl}
use Rattle.pg_file.specs.Answers.{CacheEvents, CleanEvents, FileAnswer, RequestAnswer, TellsKnown, cache_request, clean_request, device_failed, is_stored}
use Rattle.pg_file.specs.Answers.{sent_to, told_of}
use Rattle.pg_file.specs.Files.{FileTable, LacksPage, has_lost}
use Rattle.pg_file.specs.Stands.{AnswersKept, IsKnownAs, PagerServes, PagerStands, taking}
use Rattle.pg_file.proofs.Facts.{holds_taken, sent_about}

-- the file pager answers for declared files
sends : (header : Header) (outside : Outside) (doing : Command) (host object control : ℕ) (m : Message) (past : List Event) → is_file header object ≡ true
    → MaySendDown header outside doing host object control m past → PagerSends (kind_of header object) header outside doing host object control m past
sends header outside doing host object control m past file may =
    paged_sends header outside doing host object control m past (file_paged header object file) may

-- past the end of a file there are zeros
beyond : (bytes : List ℕ) (at n : ℕ) → length bytes ≤ at → read_at bytes at n ≡ replicate n 0
beyond bytes at n past = let none : drop at bytes ≡ [] = drop_of_length-le bytes past in rw none (take-replicate n n 0 (omega arith))

absent_zeros : (size page : ℕ) (now : Option (List ℕ)) → LacksPage size page now → read_at (unwrap_or now []) (page * size) size ≡ replicate size 0
absent_zeros size page None lacks = beyond [] (page * size) size (omega arith)
absent_zeros size page (Some bytes) lacks = beyond bytes (page * size) size lacks

-- what the pager has of a page that isn't lost is what the file has now
has_page : (header : Header) (outside : Outside) (host object page : ℕ) (past events : List Event) → is_file header object ≡ true
    → is_lost object page past ≡ false → (kept : AnswersKept header outside host object past events)
    → pager_has header outside host object page past ≡ Some (read_at (unwrap_or kept.now []) (page * header.size) header.size)
has_page header outside host object page past events file stored kept =
    ap (λ (x : Option (List ℕ)). newer (last_return host object page past) x) begun ∙ sym (kept.kept.page page stored)
  where
    start_is : start_page header outside object page ≡ read_at (unwrap_or kept.start []) (page * header.size) header.size
    start_is = ap (λ (files : FilesAtStart). start_in header files object page) kept.told.told ∙ kept.told.page page

    begun : (if is_file header object then Some (start_page header outside object page) else None) ≡ Some
        (read_at (unwrap_or kept.start []) (page * header.size) header.size)
    begun = rw file (ap Some start_is)

-- what is licensed where the answer tells what the file has
abbrev CausedInTurn : Header → Outside → Command → ℕ → ℕ → List Event → List Event → List Event → Type 0
CausedInTurn header outside doing host object past first events =
    (tells header outside object ≡ true → AnswersKept header outside host object past events) → AllInTurn header outside doing events first

-- the history in which a request was taken
abbrev asked : ℕ → ℕ → ℕ → PageNo → ℕ → List Event → List Event
asked host object control page access past = taking host object (message.Request control page access) past

has_asked : (header : Header) (outside : Outside) (host object control : ℕ) (page : PageNo) (access : ℕ) (past : List Event)
    → pager_has header outside host object page.0 (asked host object control page access past) ≡ pager_has header outside host object page.0 past
has_asked header outside host object control page access past =
    let holds = holds_taken host object (message.Request control page access) past tt in
    ap (λ (x : Option (List ℕ)). newer x (if is_file header object then Some (start_page header outside object page.0) else None)) (holds.last host page.0)

no_file : {X : Type 0} (header : Header) (object : ℕ) → is_file header object ≡ true → is_file header object ≡ false → X
no_file header object file other = absurd (false≢true (sym other ∙ file))

supplies : (header : Header) (outside : Outside) (doing : Command) (host object control : ℕ) (page : PageNo) (access : ℕ) (bytes : List ℕ) (past : List Event)
    → is_file header object ≡ true → is_lost object page.0 past ≡ false
    → CausedInTurn header outside doing host object past (asked host object control page access past) (sent_to host object control (supply page bytes) ∷ [])
supplies header outside doing host object control page access bytes past file stored kept = (
  (
    sends header outside doing host object control (supply page bytes) (asked host object control page access past) file (
      record { access = access; taken = refl; unanswered = refl },
      record { kept = stored; read = refl },
      refl,
      refl,
      (λ other. no_file header object file other),
      λ told. has (kept told),
    ),
    tt,
  ),
  tt,
)
  where
    has : AnswersKept header outside host object past (sent_to host object control (supply page bytes) ∷ [])
        → pager_has header outside host object page.0 (asked host object control page access past) ≡ Some bytes
    has k =
        has_asked header outside host object control page access past ∙ has_page header outside host object page.0 past _ file stored k
        ∙ ap Some (sym k.tells.1)

lacks : (header : Header) (outside : Outside) (doing : Command) (host object control : ℕ) (page : PageNo) (access : ℕ) (past : List Event)
    → is_file header object ≡ true → is_lost object page.0 past ≡ false
    → CausedInTurn header outside doing host object past (asked host object control page access past)
    (sent_to host object control (message.Unavailable page) ∷ [])
lacks header outside doing host object control page access past file stored kept = (
  (
    sends header outside doing host object control (message.Unavailable page) (asked host object control page access past) file (
      record { access = access; taken = refl; unanswered = refl },
      record { kept = stored; read = refl },
      (λ other. no_file header object file other, λ told is. has (kept told)),
    ),
    tt,
  ),
  tt,
)
  where
    has : AnswersKept header outside host object past (sent_to host object control (message.Unavailable page) ∷ [])
        → pager_has header outside host object page.0 (asked host object control page access past) ≡ Some (replicate header.size 0)
    has k =
        has_asked header outside host object control page access past ∙ has_page header outside host object page.0 past _ file stored k
        ∙ ap Some (absent_zeros header.size page.0 k.now k.tells)

unread : (header : Header) (outside : Outside) (doing : Command) (host object control : ℕ) (page : PageNo) (access : ℕ) (past : List Event)
    → is_file header object ≡ true
    → AllInTurn header outside doing (sent_to host object control (error page) ∷ device_failed Read object page ∷ [])
    (asked host object control page access past)
unread header outside doing host object control page access past file = (
  (
    sends header outside doing host object control (error page) (device_failed Read object page ∷ asked host object control page access past) file
        (record { access = access; taken = refl; unanswered = refl }, refl, inr (own_test object page.0 page.0 false (itself page.0))),
    tt,
  ),
  (((file, (host, record { control = control; access = access; is = refl }, tt)), tt), tt),
)

requested : (header : Header) (outside : Outside) (doing : Command) (size host object control : ℕ) (page : PageNo) (access : ℕ) (past : List Event)
    (lost : Bool) (events : List Event) → is_file header object ≡ true → is_lost object page.0 past ≡ lost
    → RequestAnswer size host object control page lost events
    → CausedInTurn header outside doing host object past (asked host object control page access past) events
requested header outside doing size host object control page access past true events file lost is =
    subst (CausedInTurn header outside doing host object past _) (sym is) (λ kept. lost_answered header outside doing (record { 0 = host })
    (record { 0 = object }) control page access past (file_paged header object file) lost)
requested header outside doing size host object control page access past false events file stored (inl is) =
    subst (CausedInTurn header outside doing host object past _) (sym is.2) (supplies header outside doing host object control page access is.0 past file
    stored)
requested header outside doing size host object control page access past false events file stored (inr (inl is)) =
    subst (CausedInTurn header outside doing host object past _) (sym is) (lacks header outside doing host object control page access past file stored)
requested header outside doing size host object control page access past false events file stored (inr (inr is)) =
    subst (CausedInTurn header outside doing host object past _) (sym is) (λ kept. unread header outside doing host object control page access past file)

returned : (header : Header) (outside : Outside) (doing : Command) (host object control : ℕ) (page : PageNo) (dirty keep : Bool) (bytes : List ℕ)
    (past : List Event) (stored : Bool) → is_file header object ≡ true
    → AllInTurn header outside doing (told_of stored object page) (taking host object (message.Return control page dirty keep bytes) past)
returned header outside doing host object control page dirty keep bytes past true file = tt
returned header outside doing host object control page dirty keep bytes past false file =
    (((file, (host, record { control = control; dirty = dirty; keep = keep; bytes = bytes; is = refl }, tt)), tt), tt)

pub causes : (header : Header) (outside : Outside) (doing : Command) (host : ℕ) (past : List Event) (object : ℕ) (m : Message) (old new : FileTable)
    (events : List Event)
    → PagerServes header host past object m old new events → (tells header outside object ≡ true → AnswersKept header outside host object past events)
    → AllInTurn header outside doing events (taking host object m past)
causes header outside doing host past object m old new events serves kept = by m serves.answered
  where
    by : (m : Message) → FileAnswer m host old new events → AllInTurn header outside doing events (taking host object m past)
    by (message.Init control size) a =
        subst (λ (es : List Event). AllInTurn header outside doing es (taking host object (message.Init control size) past))
        (sym (sent_about host old.object object control _ events serves.stands.object_is a.1))
        (init_answered header outside doing (record { 0 = host }) (record { 0 = object }) control size 2 past (file_paged header object serves.stands.file)
        (sym (ap (λ b. if b then 2 else 0) serves.stands.file)))
    by (message.Create control size) a =
        subst (λ (es : List Event). AllInTurn header outside doing es (taking host object (message.Create control size) past))
        (sym (sent_about host old.object object control _ events serves.stands.object_is a.1))
        (create_answered header outside doing (record { 0 = host }) (record { 0 = object }) control size past (file_paged header object serves.stands.file))
    by (message.Request control page access) a =
        requested header outside doing old.size host object control page access past (has_lost old page.0) events serves.stands.file
        (sym (serves.stands.lost_is page.0))
        (subst (λ (o : ℕ). RequestAnswer old.size host o control page (has_lost old page.0) events) serves.stands.object_is a.1) kept
    by (message.Return control page dirty keep bytes) a =
        let told : events ≡ told_of (is_stored events) object page = subst (λ (o : ℕ). events ≡ told_of (is_stored events) o page) serves.stands.object_is
        a.told in
        subst (λ (es : List Event). AllInTurn header outside doing es (taking host object (message.Return control page dirty keep bytes) past)) (sym told)
        (returned header outside doing host object control page dirty keep bytes past (is_stored events) serves.stands.file)
    by (message.Terminate control) a = rw a.1 tt
    by (message.Unlock control page access) a = rw a.1 tt
    by (message.Completed control page count) a = rw a.1 tt
    by (message.Changed control cache strategy) a = rw a.1 tt
    by (message.Ready cache strategy) a = elim a [ ]
    by (message.Supply page lock precious bytes) a = elim a [ ]
    by (message.Unavailable page) a = elim a [ ]
    by (message.Error page reason) a = elim a [ ]
    by (message.Lock page count returns flush lock reply) a = elim a [ ]
    by (message.Attributes cache strategy reply) a = elim a [ ]
    by (message.Destroy reason) a = elim a [ ]

-- right behind its line, a command owes nothing yet
behind_line : (e : Event) (past : List Event) → just_begun past ≡ true → IsBehind e past
behind_line e [] begun = absurd (false≢true begun)
behind_line e (event.Line line ∷ past) begun = tt
behind_line e (other ∷ past) begun = absurd (false≢true begun)

-- what is said to the control that the pager knows, where a command lets it be said
tells_known : (header : Header) (outside : Outside) (doing : Command) (past : List Event) (object : ℕ) (table : FileTable) (m : Message) (events : List Event)
    → PagerStands header object table past → just_begun past ≡ true
    → ((host control : ℕ) → known_control host object past ≡ Some control → MaySendDown header outside doing host object control m past)
    → TellsKnown table.known table.object m events → AllInTurn header outside doing events past
tells_known header outside doing past object table m events s begun may a =
    by table.known s.known_is (subst (λ (o : ℕ). TellsKnown table.known o m events) s.object_is a)
  where
    by : (known : Option KnownControl) → IsKnownAs object known past → TellsKnown known object m events → AllInTurn header outside doing events past
    by None is none = subst (λ (es : List Event). AllInTurn header outside doing es past) (sym none) tt
    by (Some known) is said = subst (λ (es : List Event). AllInTurn header outside doing es past) (sym said) (
      (
        sends header outside doing known.host.0 object known.control m past s.file (may known.host.0 known.control is),
        behind_line (sent_to known.host.0 object known.control m) past begun,
      ),
      tt,
    )

pub cleans : (header : Header) (outside : Outside) (doing : Command) (past : List Event) (object : ℕ) (table : FileTable) (page : PageNo) (count : ℕ)
    (flush : Bool) (events : List Event)
    → PagerStands header object table past → just_begun past ≡ true → IsClean doing object page.0 count flush
    → CleanEvents table.known table.object page count flush events → AllInTurn header outside doing events past
cleans header outside doing past object table page count flush events s begun doing_is =
    tells_known header outside doing past object table (clean_request page count flush) events s begun
    (λ host control is. (s.file, refl, refl, refl, is, doing_is, begun))

pub caches : (header : Header) (outside : Outside) (doing : Command) (past : List Event) (object : ℕ) (table : FileTable) (cache : Bool) (events : List Event)
    → PagerStands header object table past → just_begun past ≡ true → IsCache doing object cache → CacheEvents table.known table.object cache events
    → AllInTurn header outside doing events past
caches header outside doing past object table cache events s begun doing_is =
    tells_known header outside doing past object table (cache_request cache) events s begun
    (λ host control is. (s.file, refl, refl, is, doing_is, begun))
