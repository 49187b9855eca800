-- Each page takes a message and answers in its turn.
use Rattle.std.proofs.Common.{◌≡◌, ◌⊎◌, ◌<◌, ◌≤◌, ◌==◌, ℕ, suc, List, [], ◌∷◌, ◌++◌, inl, inr, refl, subst, sym, Bool, true, false, None, if◌then◌else◌, arith}
use Rattle.std.proofs.Common.{append_assoc, ⊎_elim}
use Rattle.std.proofs.lemmas.Bool.{cases_Bool, false≢true}
use Rattle.std.proofs.lemmas.Bool.Decides.{nat_tests}
use Rattle.sms_pages.proofs.Facts.{heard_kept}
use Rattle.sms_pages.proofs.Following.{serving}
use Rattle.sms_pages.proofs.Taken.{after_return, completed_taken, end_taken, request_taken, unlock_taken}
use Rattle.sms_pages.specs.Directory.{Directory, IsSame, IsServedDirectory}
use Rattle.sms_pages.specs.Stands.{Hears, StandsFor, lock_number, reply_acts, taking_act}
use Rattle.sms_pages.specs.declared.reply.Reply.{Reply}
use Rattle.sms_pages.specs.declared.reply.Reply.TheVariants.{Supply, Flush, CleanLock, Unlock}
use Rattle.vm_base.specs.declared.ids.ObjectId.{ObjectId}
use Rattle.vm_base.specs.declared.ids.ObjectKind.{ObjectKind}
use Rattle.vm_base.specs.declared.ids.ObjectKind.TheVariants.{Temp, File, Shared, Wild}
use Rattle.vm_legal.proofs.Stretched.{licensed_both}
use Rattle.vm_legal.proofs.Owing.{behind_none}
use Rattle.vm_legal.specs.Licences.{PagerSends, ServerSends, owed}
use Rattle.vm_legal.specs.InTurn.{AllInTurn}
use Rattle.vm_legal.specs.Outside.{Outside, is_shared, is_shared_kind, kind_of}
use Rattle.vm_model.specs.PageLicences.{ActsLicensed, ReplyCause}
use Rattle.vm_model.specs.PagePart.{page_part}
use Rattle.vm_model.specs.Words.{UpWord, Asking, Unlocking, Returning, Doing, Ending, OtherUp, Supplying, Locking, Act, up_word}
use Rattle.vm_model.specs.declared.command.Command.{Command}
use Rattle.vm_model.specs.declared.event.Event.{Event}
use Rattle.vm_model.specs.declared.message.Message.{Message}
use Rattle.vm_model.specs.declared.message.Message.TheVariants as message
use Rattle.vm_model.specs.declared.script.Header.{Header}
use Rattle.sms_server.proofs.Acting.{AreFree, act_in, free_both, free_licensed, free_quiet, own_replies, own_taken, replies_free}
use Rattle.sms_server.proofs.Quiet.{StillServed, hears_quiet, stands_quiet, still_quiet, still_same}
use Rattle.sms_server.specs.Answers.{DirectoryAfter, RisesFrom, changed_by, heard_by, is_among, page_events, page_no, replies_to, reply_event, reply_events}
use Rattle.sms_server.specs.Answers.{stretches}
use Rattle.sms_server.specs.Stands.{MeetsProtocol, ServerServes, taking}
use Rattle.sms_server.specs.Table.{ServerTable, directory_at, heard_at}

-- a page that took a word and is to answer; `before` is what it was in front of the step
pub record ToAnswer (size h : ℕ) (w : UpWord) (d : Directory) (heard : ℕ → ℕ) (before part : List Act) : Type 0 where
  pub licensed : ActsLicensed size part
  pub stands : StandsFor size (changed_by h w d) part
  pub hears : Hears (heard_by h w heard) part
  pub served : w ≡ OtherUp → StillServed before part

-- a page that has answered
pub record HasAnswered (size : ℕ) (d : Directory) (heard : ℕ → ℕ) (before part : List Act) : Type 0 where
  pub stands : StandsFor size d part
  pub hears : Hears heard part
  pub served : StillServed before part

-- the taking

stands_taken : (size h : ℕ) (w : UpWord) (d : Directory) (past : List Act) → h < 8 → StandsFor size d past → MeetsProtocol h w past
    → StandsFor size (changed_by h w d) (taking_act h w ∷ past)
stands_taken size h (Asking control access) d past low s meets = request_taken size h control access d past s low meets
stands_taken size h (Unlocking access) d past low s meets = unlock_taken size h access d past s low meets
stands_taken size h (Returning dirty keep bytes) d past low s meets = after_return size h dirty keep bytes d past s low
stands_taken size h (Doing control count) d past low s meets = completed_taken size h control count d past s low meets
stands_taken size h (Ending control) d past low s meets = end_taken size h control d past s low meets
stands_taken size h OtherUp d past low s meets = stands_quiet size d (taking_act h OtherUp) past refl s

hears_taken : (h : ℕ) (w : UpWord) (heard : ℕ → ℕ) (past : List Act) → Hears heard past → Hears (heard_by h w heard) (taking_act h w ∷ past)
hears_taken h (Asking control access) heard past hears g = let was = hears g in grind (arith, nat_tests)
hears_taken h (Unlocking access) heard past hears g = let was = hears g in grind (arith, nat_tests)
hears_taken h (Returning dirty keep bytes) heard past hears g = let was = hears g in grind (arith, nat_tests)
hears_taken h (Doing control count) heard past hears g = let was = hears g in grind (arith, nat_tests)
hears_taken h (Ending control) heard past hears g = let was = hears g in grind (arith, nat_tests)
hears_taken h OtherUp heard past hears g = hears_quiet heard (taking_act h OtherUp) past refl hears g

served_taken : (h : ℕ) (w : UpWord) (past : List Act) → w ≡ OtherUp → StillServed past (taking_act h w ∷ past)
served_taken h w past other =
    subst (λ (v : UpWord). StillServed past (taking_act h v ∷ past)) (sym other) (still_quiet (taking_act h OtherUp) past past refl (still_same past))

pub taken : (header : Header) (h : ℕ) (past : List Event) (object : ObjectId) (m : Message) (old new : ServerTable) (events : List Event)
    → ServerServes header h past object m old new events → (p : ℕ)
    → ToAnswer header.size h (up_word p m) (directory_at old object.0 p) (heard_at old object.0 p) (page_part header.size object.0 p past)
    (page_part header.size object.0 p (taking h object m past))
taken header h past object m old new events s p =
    subst (ToAnswer header.size h (up_word p m) (directory_at old object.0 p) (heard_at old object.0 p) (page_part header.size object.0 p past)) (sym same)
    (record {
      licensed = subst (ActsLicensed header.size) same (s.licensed p);
      stands = stands_taken header.size h (up_word p m) (directory_at old object.0 p) part s.host (s.stands.pages object.0 p s.shared) (s.protocol p);
      hears = hears_taken h (up_word p m) (heard_at old object.0 p) part (s.stands.heard object.0 p s.shared);
      served = served_taken h (up_word p m) part;
    })
  where
    part : List Act
    part = page_part header.size object.0 p past

    same : page_part header.size object.0 p (taking h object m past) ≡ taking_act h (up_word p m) ∷ part
    same = own_taken header.size h p object m past

-- the answer of one page

pub same_stands : (size : ℕ) (old new : Directory) (part : List Act) → IsSame old new → StandsFor size old part → StandsFor size new part
same_stands size old new part same s = rw (same.holds, same.awaits, same.bytes, same.line) s

after_word : (h : ℕ) (w : UpWord) (old new : Directory) → DirectoryAfter h w old new → ((w ≡ OtherUp) × IsSame old new)
    ⊎ IsServedDirectory (changed_by h w old) new (replies_to h w old)
after_word h (Asking control access) old new after = inr after
after_word h (Unlocking access) old new after = inr after
after_word h (Returning dirty keep bytes) old new after = inr after
after_word h (Doing control count) old new after = inr after
after_word h (Ending control) old new after = inr after
after_word h OtherUp old new after = inl (refl, after)

hears_replies : (heard : ℕ → ℕ) (rs : List Reply) (past : List Act) → Hears heard past → Hears heard (reply_acts heard rs ++ past)
hears_replies heard [] past hears = hears
hears_replies heard (Supply host lock bytes ∷ rs) past hears =
    heard_kept heard host.0 (heard host.0) _ (reply_acts heard rs ++ past) (hears_replies heard rs past hears)
hears_replies heard (Flush host ∷ rs) past hears = heard_kept heard host.0 (heard host.0) _ (reply_acts heard rs ++ past) (hears_replies heard rs past hears)
hears_replies heard (CleanLock host ∷ rs) past hears =
    heard_kept heard host.0 (heard host.0) _ (reply_acts heard rs ++ past) (hears_replies heard rs past hears)
hears_replies heard (Unlock host ∷ rs) past hears = heard_kept heard host.0 (heard host.0) _ (reply_acts heard rs ++ past) (hears_replies heard rs past hears)

-- the page's acts behind its answer
pub record Answering (size : ℕ) (d : Directory) (heard : ℕ → ℕ) (before : List Act) (replies : List Reply) (part : List Act) : Type 0 where
  pub licensed : ActsLicensed size (reply_acts heard replies ++ part)
  pub answered : HasAnswered size d heard before (reply_acts heard replies ++ part)

pub answers : (size h : ℕ) (w : UpWord) (old new : Directory) (heard : ℕ → ℕ) (before part : List Act) → ToAnswer size h w old heard before part
    → DirectoryAfter h w old new
    → Answering size new (heard_by h w heard) before (replies_to h w old) part
answers size h w old new heard before part t after =
    ⊎_elim
    (λ (o : (w ≡ OtherUp) × IsSame old new). subst (λ (v : UpWord). ToAnswer size h v old heard before part
    → Answering size new (heard_by h v heard) before (replies_to h v old) part) (sym o.0)
    (λ u. record { licensed = u.licensed; answered = record { stands = same_stands size old new part o.1 u.stands; hears = u.hears; served = u.served refl } })
    t)
    (λ (is : IsServedDirectory (changed_by h w old) new (replies_to h w old)).
    let r = serving size (heard_by h w heard) (changed_by h w old) new (replies_to h w old) part t.licensed t.stands t.hears is in
    record {
      licensed = r.licensed;
      answered = record {
        stands = r.stands;
        hears = hears_replies (heard_by h w heard) (replies_to h w old) part t.hears;
        served = record { somebody = λ was. r.served; recalled = λ was. r.recalled };
      };
    })
    (after_word h w old new after)

-- what the server sends has its cause

shared_is : (k : ObjectKind) → is_shared_kind k ≡ true → k ≡ Shared
shared_is Temp is = absurd (false≢true is)
shared_is File is = absurd (false≢true is)
shared_is Shared is = refl
shared_is Wild is = absurd (false≢true is)

pub sends : (header : Header) (outside : Outside) (doing : Command) (h : ℕ) (object : ObjectId) (control : ℕ) (m : Message) (past : List Event)
    → is_shared header object.0 ≡ true
    → ServerSends header h object.0 control m past → PagerSends (kind_of header object.0) header outside doing h object.0 control m past
sends header outside doing h object control m past shared may =
    subst (λ (k : ObjectKind). PagerSends k header outside doing h object.0 control m past) (sym (shared_is (kind_of header object.0) shared)) may

pub owed_replies : (object : ObjectId) (p : ℕ) (heard : ℕ → ℕ) (rs : List Reply) (past : List Event) → owed past ≡ None
    → owed (reply_events object (page_no p) heard rs ++ past) ≡ None
owed_replies object p heard [] past none = none
owed_replies object p heard (Supply host lock bytes ∷ rs) past none = refl
owed_replies object p heard (Flush host ∷ rs) past none = refl
owed_replies object p heard (CleanLock host ∷ rs) past none = refl
owed_replies object p heard (Unlock host ∷ rs) past none = refl

pub replies_caused : (header : Header) (outside : Outside) (doing : Command) (object : ObjectId) (p : ℕ) (heard : ℕ → ℕ) (rs : List Reply) (past : List Event)
    → is_shared header object.0 ≡ true → owed past ≡ None
    → ActsLicensed header.size (reply_acts heard rs ++ page_part header.size object.0 p past)
    → AllInTurn header outside doing (reply_events object (page_no p) heard rs) past
replies_caused header outside doing object p heard [] past shared none licensed = tt
replies_caused header outside doing object p heard (Supply host lock bytes ∷ rs) past shared none licensed = (
  (
    sends header outside doing host.0 object (heard host.0) (message.Supply (page_no p) (lock_number lock) false bytes)
        (reply_events object (page_no p) heard rs ++ past) shared (subst (ReplyCause header.size host.0 (heard host.0)
        (Supplying (lock_number lock) false bytes)) (sym (own_replies header.size p object heard rs past)) licensed.0),
    behind_none (reply_event object (page_no p) heard (Supply host lock bytes)) (reply_events object (page_no p) heard rs ++ past)
        (owed_replies object p heard rs past none),
  ),
  replies_caused header outside doing object p heard rs past shared none licensed.1,
)
replies_caused header outside doing object p heard (Flush host ∷ rs) past shared none licensed = (
  (
    sends header outside doing host.0 object (heard host.0) (message.Lock (page_no p) 1 1 true 8 true) (reply_events object (page_no p) heard rs ++ past) shared
        (subst (ReplyCause header.size host.0 (heard host.0) (Locking 1 1 true 8 true)) (sym (own_replies header.size p object heard rs past)) licensed.0),
    behind_none (reply_event object (page_no p) heard (Flush host)) (reply_events object (page_no p) heard rs ++ past)
        (owed_replies object p heard rs past none),
  ),
  replies_caused header outside doing object p heard rs past shared none licensed.1,
)
replies_caused header outside doing object p heard (CleanLock host ∷ rs) past shared none licensed = (
  (
    sends header outside doing host.0 object (heard host.0) (message.Lock (page_no p) 1 1 false 2 true) (reply_events object (page_no p) heard rs ++ past)
        shared (subst (ReplyCause header.size host.0 (heard host.0) (Locking 1 1 false 2 true)) (sym (own_replies header.size p object heard rs past))
        licensed.0),
    behind_none (reply_event object (page_no p) heard (CleanLock host)) (reply_events object (page_no p) heard rs ++ past)
        (owed_replies object p heard rs past none),
  ),
  replies_caused header outside doing object p heard rs past shared none licensed.1,
)
replies_caused header outside doing object p heard (Unlock host ∷ rs) past shared none licensed = (
  (
    sends header outside doing host.0 object (heard host.0) (message.Lock (page_no p) 1 0 false 0 false) (reply_events object (page_no p) heard rs ++ past)
        shared (subst (ReplyCause header.size host.0 (heard host.0) (Locking 1 0 false 0 false)) (sym (own_replies header.size p object heard rs past))
        licensed.0),
    behind_none (reply_event object (page_no p) heard (Unlock host)) (reply_events object (page_no p) heard rs ++ past)
        (owed_replies object p heard rs past none),
  ),
  replies_caused header outside doing object p heard rs past shared none licensed.1,
)

-- all pages, in their turn

pub answered_free : (size : ℕ) (d : Directory) (heard : ℕ → ℕ) (before : List Act) (o p : ℕ) (es past : List Event) → AreFree size o p es past
    → HasAnswered size d heard before (page_part size o p past) → HasAnswered size d heard before (page_part size o p (es ++ past))
answered_free size d heard before o p [] past free a = a
answered_free size d heard before o p (e ∷ es) past free a =
    let rest = answered_free size d heard before o p es past free.1 a in
    let act = act_in size o p e (es ++ past) in
    let part = page_part size o p (es ++ past) in
    let none = free_quiet act.effect free.0 in
    record {
      stands = stands_quiet size d act part none rest.stands;
      hears = hears_quiet heard act part none rest.hears;
      served = still_quiet act before part none rest.served;
    }

waits_free : (size h : ℕ) (w : UpWord) (d : Directory) (heard : ℕ → ℕ) (before : List Act) (o p : ℕ) (es past : List Event) → AreFree size o p es past
    → ToAnswer size h w d heard before (page_part size o p past) → ToAnswer size h w d heard before (page_part size o p (es ++ past))
waits_free size h w d heard before o p [] past free a = a
waits_free size h w d heard before o p (e ∷ es) past free a =
    let rest = waits_free size h w d heard before o p es past free.1 a in
    let act = act_in size o p e (es ++ past) in
    let part = page_part size o p (es ++ past) in
    let none = free_quiet act.effect free.0 in
    record {
      licensed = free_licensed size act.host act.effect part free.0 rest.licensed;
      stands = stands_quiet size (changed_by h w d) act part none rest.stands;
      hears = hears_quiet (heard_by h w heard) act part none rest.hears;
      served = λ other. still_quiet act before part none (rest.served other);
    }

-- who answers, for a message of a host about an object
pub record Asked (header : Header) (h : ℕ) (object : ObjectId) (m : Message) (old new : ServerTable) (before : ℕ → List Act) : Type 0 where
  pub shared : is_shared header object.0 ≡ true
  pub after : (p : ℕ) → DirectoryAfter h (up_word p m) (directory_at old object.0 p) (directory_at new object.0 p)

abbrev pub Waits : (header : Header) (h : ℕ) (object : ObjectId) (m : Message) (old : ServerTable) (before : ℕ → List Act) → ℕ → List Event → Type 0
Waits header h object m old before p past =
    ToAnswer header.size h (up_word p m) (directory_at old object.0 p) (heard_at old object.0 p) (before p) (page_part header.size object.0 p past)

abbrev pub Done : (header : Header) (h : ℕ) (object : ObjectId) (m : Message) (old new : ServerTable) (before : ℕ → List Act) → ℕ → List Event → Type 0
Done header h object m old new before p past =
    HasAnswered header.size (directory_at new object.0 p) (heard_by h (up_word p m) (heard_at old object.0 p)) (before p)
    (page_part header.size object.0 p past)

-- one page, whose events come now
pub one_answers : (header : Header) (outside : Outside) (doing : Command) (h : ℕ) (object : ObjectId) (m : Message) (old new : ServerTable)
    (before : ℕ → List Act) (p : ℕ) (past : List Event) → Asked header h object m old new before
    → owed past ≡ None → Waits header h object m old before p past
    → Done header h object m old new before p (page_events old h object m p ++ past) × AllInTurn header outside doing (page_events old h object m p) past
one_answers header outside doing h object m old new before p past a none waits =
    let r = answers header.size h (up_word p m) (directory_at old object.0 p) (directory_at new object.0 p) (heard_at old object.0 p) (before p)
    (page_part header.size object.0 p past) waits (a.after p) in (
      subst (HasAnswered header.size (directory_at new object.0 p) (heard_by h (up_word p m) (heard_at old object.0 p)) (before p))
          (sym (own_replies header.size p object (heard_by h (up_word p m) (heard_at old object.0 p)) (replies_to h (up_word p m) (directory_at old object.0 p))
          past)) r.answered,
      replies_caused header outside doing object p (heard_by h (up_word p m) (heard_at old object.0 p))
          (replies_to h (up_word p m) (directory_at old object.0 p)) past a.shared none r.licensed,
    )

page_free : (size h o q p : ℕ) (object : ObjectId) (m : Message) (old : ServerTable) (past : List Event) → (object.0 ≡ o → (p == q) ≡ false)
    → AreFree size o q (page_events old h object m p) past
page_free size h o q p object m old past apart =
    replies_free size o q p object (heard_by h (up_word p m) (heard_at old object.0 p)) (replies_to h (up_word p m) (directory_at old object.0 p)) past apart

-- pages answer in words of their own
pub stretches_free : (size h o q : ℕ) (object : ObjectId) (m : Message) (old : ServerTable) (ps : List ℕ) (past : List Event)
    → (object.0 ≡ o → is_among q ps ≡ false) → AreFree size o q (stretches old h object m ps) past
stretches_free size h o q object m old [] past apart = tt
stretches_free size h o q object m old (p ∷ ps) past apart =
    free_both size o q (stretches old h object m ps) (page_events old h object m p) past
    (stretches_free size h o q object m old ps (page_events old h object m p ++ past) (λ same. let is = apart same in not_rest (p == q) (is_among q ps) is))
    (page_free size h o q p object m old past (λ same. let is = apart same in not_first (p == q) (is_among q ps) is))
  where
    not_first : (b c : Bool) → (if b then true else c) ≡ false → b ≡ false
    not_first true c is = absurd (false≢true (sym is))
    not_first false c is = refl

    not_rest : (b c : Bool) → (if b then true else c) ≡ false → c ≡ false
    not_rest true c is = absurd (false≢true (sym is))
    not_rest false c is = is

low_apart : (n q : ℕ) (ps : List ℕ) → RisesFrom n ps → q < n → is_among q ps ≡ false
low_apart n q [] rises low = refl
low_apart n q (p ∷ ps) rises low =
    let no : (p == q) ≡ false = (let le = rises.0 in grind (arith, nat_tests)) in
    rw no (low_apart (suc p) q ps rises.1 (omega (arith, rises.0)))

-- what pages by rising number leave, and that they may
pub record InTurn (header : Header) (outside : Outside) (doing : Command) (h : ℕ) (object : ObjectId) (m : Message) (old new : ServerTable)
    (before : ℕ → List Act) (ps : List ℕ) (past : List Event) : Type 0 where
  pub done : (q : ℕ) → is_among q ps ≡ true → Done header h object m old new before q (stretches old h object m ps ++ past)
  pub licensed : AllInTurn header outside doing (stretches old h object m ps) past

pub in_turn : (header : Header) (outside : Outside) (doing : Command) (h : ℕ) (object : ObjectId) (m : Message) (old new : ServerTable) (before : ℕ → List Act)
    (n : ℕ) (ps : List ℕ) (past : List Event) → Asked header h object m old new before
    → RisesFrom n ps → owed past ≡ None → ((q : ℕ) → n ≤ q → Waits header h object m old before q past)
    → InTurn header outside doing h object m old new before ps past
in_turn header outside doing h object m old new before n [] past a rises none waits = record { done = λ q is. absurd (false≢true is); licensed = tt }
in_turn header outside doing h object m old new before n (p ∷ ps) past a rises none waits =
    let first = one_answers header outside doing h object m old new before p past a none (waits p rises.0) in
    let rest = in_turn header outside doing h object m old new before (suc p) ps (page_events old h object m p ++ past) a rises.1
    (owed_replies object p (heard_by h (up_word p m) (heard_at old object.0 p)) (replies_to h (up_word p m) (directory_at old object.0 p)) past none)
    (λ q high. waits_free header.size h (up_word q m) (directory_at old object.0 q) (heard_at old object.0 q) (before q) object.0 q
    (page_events old h object m p) past
    (page_free header.size h object.0 q p object m old past (λ same. grind (arith, nat_tests))) (waits q (omega (arith, rises.0)))) in
    record {
      done =
          λ q is. subst (λ (l : List Event). Done header h object m old new before q l)
          (sym (append_assoc (stretches old h object m ps) (page_events old h object m p) past))
          (⊎_elim
          (λ (same : (p == q) ≡ true).
          let e : p ≡ q = grind (arith, nat_tests, same) in
          subst (λ (k : ℕ). Done header h object m old new before k (stretches old h object m ps ++ (page_events old h object m p ++ past))) e
          (answered_free header.size (directory_at new object.0 p) (heard_by h (up_word p m) (heard_at old object.0 p)) (before p) object.0 p
          (stretches old h object m ps) (page_events old h object m p ++ past)
          (stretches_free header.size h object.0 p object m old ps (page_events old h object m p ++ past) (λ own. low_apart (suc p) p ps rises.1 (omega arith)))
          first.0))
          (λ (other : (p == q) ≡ false). rest.done q (rw other at is))
          (cases_Bool (p == q)));
      licensed = licensed_both header outside doing (stretches old h object m ps) (page_events old h object m p) past rest.licensed first.1;
    }
