-- Where the step took a file pager's word that there is no such page, the place says so until zeros come.
use Rattle.std.proofs.Common.{ℕ, ◌≡◌, List, [], ◌∷◌, Bool, true, false, Option, Some, None, if◌then◌else◌, refl, sym, ap, subst, ◌∙◌, arith}
use Rattle.std.proofs.lemmas.Bool.Decides.{nat_tests}
use Rattle.std.specs.Prelude.{◌==◌, ◌&&◌}
use Rattle.vm_base.specs.Pages.{little_endian_bytes}
use Rattle.vm_base.specs.declared.ids.HostId.{HostId}
use Rattle.vm_base.specs.declared.ids.ObjectId.{ObjectId}
use Rattle.vm_model.specs.declared.command.Command.{Command}
use Rattle.vm_model.specs.declared.event.Event.{Event}
use Rattle.vm_model.specs.declared.event.Event.TheVariants as event
use Rattle.vm_model.specs.declared.message.Channel.{Channel}
use Rattle.vm_model.specs.declared.message.Channel.TheVariants.{Up, Down}
use Rattle.vm_model.specs.declared.message.Message.{Message}
use Rattle.vm_model.specs.declared.message.Message.TheVariants as message
use Rattle.vm_model.specs.declared.script.Header.{Header}
use Rattle.vm_model.specs.Controls.{is_control, last_control, live_control}
use Rattle.vm_model.specs.Moments.{EachEvent}
use Rattle.vm_legal.proofs.Served.{paged_may}
use Rattle.vm_legal.specs.Licences.{HasCause, MaySendDown, is_paged, zeroes}
use Rattle.vm_legal.specs.Living.{lives_on}
use Rattle.vm_legal.specs.Outside.{Outside, is_file, is_said, zeros}
use Rattle.vm_legal.specs.Steps.{Asked, Letter, absence_taken, since, taken_letter}
use Rattle.vm_legal.specs.Walks.{page_on}
use Rattle.vm_flat.specs.Locals.{SpotIsLocal}
use Rattle.vm_flat.specs.Places.{effect_sent_up, effect_sent_down, effect_taken_down, spot}
use Rattle.vm_flat.specs.Spot.{Spot, spot_after}
use Rattle.vm_flat.specs.Words.{Supplying, Unavailing, Erring, SpotEffect, Creates, Answers, Takes, Zeroes, Raises, Stores, Drops, Ends, StepEnds, Nothing}
use Rattle.vm_flat.proofs.Lives.{itself}
use Rattle.vm_flat.proofs.Locals.{is_live, spot_is_local}
use Rattle.vm_flat.proofs.MergeEffects.{merge_keeps}
use Rattle.vm_flat.proofs.Pagers.{both_no}
pub use Rattle.vm_legal.proofs.Files.{file_paged}

void_if : (z : List ℕ) (s : Spot) (b : Bool) (e f : SpotEffect) → (b ≡ true → (spot_after z s e).void ≡ s.void) → (spot_after z s f).void ≡ s.void
    → (spot_after z s (if b then e else f)).void ≡ s.void
void_if z s true e f one two = one refl
void_if z s false e f one two = two

sent_up_void : (z : List ℕ) (s : Spot) (o p : ℕ) (own : Bool) (live : Option ℕ) (object : ℕ) (m : Message)
    → (spot_after z s (effect_sent_up o p own live object m)).void ≡ s.void
sent_up_void z s o p own live object (message.Init control size) = void_if z s (own && object == o) Creates Nothing (λ b. refl) refl
sent_up_void z s o p own live object (message.Create control size) = void_if z s (own && object == o) Creates Nothing (λ b. refl) refl
sent_up_void z s o p own live object (message.Request control page access) = void_if z s (own && (object == o && page.0 == p)) _ Nothing (λ b. refl) refl
sent_up_void z s o p own live object (message.Return control page dirty keep bytes) =
    void_if z s (own && (object == o && page.0 == p)) _ Nothing (λ b. refl) refl
sent_up_void z s o p own live object (message.Terminate control) = void_if z s _ Ends Nothing (λ b. refl) refl
sent_up_void z s o p own live object other = refl

pub not_absent : {A : Type 0} (a : Asked) → ◌≡◌ {A = Option Asked} None (Some a) → A
not_absent a is = absurd (cc)

abbrev is_up : Option Letter → Bool
is_up None = false
is_up (Some letter) = by_channel letter.channel
  where
    by_channel : Channel → Bool
    by_channel (Up host object) = true
    by_channel (Down host object control) = false

-- what a step took of a pager's word came down, not up
came_down : (header : Header) (past : List Event) (a : Asked) (host object : ℕ) (m : Message) → absence_taken header past ≡ Some a
    → taken_letter past ≡ Some (record { channel = Up (record { 0 = host }) (record { 0 = object }); message = m }) → ⊥
came_down header [] a host object m is up = not_absent a is
came_down header (event.Line line ∷ past) a host object m is up = not_absent a is
came_down header (event.Taken (Up at of) n ∷ past) a host object m is up = not_absent a is
came_down header (event.Taken (Down at of control) n ∷ past) a host object m is up = absurd (let bad : false ≡ true = ap (λ l. is_up l) up in cc)
came_down header (e ∷ past) a host object m is up = came_down header past a host object m is up

second : (a b : Bool) → (a && b) ≡ true → b ≡ true
second true b is = is
second false b is = absurd (let bad : false ≡ true = is in cc)

first : (a b : Bool) → (a && b) ≡ true → a ≡ true
first true b is = refl
first false b is = is

number_is : (a b : ℕ) → (a == b) ≡ true → a ≡ b
number_is a b is = grind (arith, nat_tests)

-- an answer cannot be sent in such a step
sent_down_void : (header : Header) (outside : Outside) (doing : Command) (z : List ℕ) (s : Spot) (o p at object control : ℕ) (own tells : Bool) (m : Message)
    (past : List Event) (a : Asked)
    → absence_taken header past ≡ Some a → ((object == o) ≡ true → MaySendDown header outside doing at object control m past)
    → (spot_after z s (effect_sent_down o p own tells object m)).void ≡ s.void
sent_down_void header outside doing z s o p at object control own tells (message.Supply page lock precious bytes) past a is c =
    void_if z s (own && (object == o && page.0 == p)) (Answers tells (Supplying bytes)) Nothing
    (λ b. absurd (came_down header past a at object _ is (c (first (object == o) (page.0 == p) (second own _ b))).0.taken)) refl
sent_down_void header outside doing z s o p at object control own tells (message.Unavailable page) past a is c =
    void_if z s (own && (object == o && page.0 == p)) (Answers tells Unavailing) Nothing
    (λ b. absurd (came_down header past a at object _ is (c (first (object == o) (page.0 == p) (second own _ b))).0.taken)) refl
sent_down_void header outside doing z s o p at object control own tells (message.Error page reason) past a is c =
    void_if z s (own && (object == o && page.0 == p)) (Answers tells Erring) Nothing
    (λ b. absurd (came_down header past a at object _ is (c (first (object == o) (page.0 == p) (second own _ b))).0.taken)) refl
sent_down_void header outside doing z s o p at object control own tells other past a is c = refl

zeroed_void : (z : List ℕ) (s : Spot) (own here : Bool) → here ≡ false → (spot_after z s (if own && here then Zeroes else Nothing)).void ≡ s.void
zeroed_void z s true false is = refl
zeroed_void z s false here is = refl
zeroed_void z s true true is = absurd (let bad : true ≡ false = is in cc)

-- the place hears the word where the live control asked
hears_void : (z : List ℕ) (s : Spot) (own : Bool) → own ≡ true → (s.control == 1) ≡ true → s.asked ≡ true → s.file ≡ true
    → (spot_after z s (if own then Takes Unavailing else StepEnds)).void ≡ true
hears_void z s own mine lives asked file = rw (mine, lives, asked, file) refl

abbrev pub absent : ℕ → ℕ → ℕ → Asked
absent host o p = record { host = host; object = o; page = p }

pub record Came (h o p at to index : ℕ) (b : Bool) : Type 0 where
  pub counts : b ≡ true
  pub host : at ≡ h
  pub object : to ≡ o
  pub page : index ≡ p

abbrev host_in : Option Asked → ℕ
host_in None = 0
host_in (Some a) = a.host

abbrev object_in : Option Asked → ℕ
object_in None = 0
object_in (Some a) = a.object

abbrev page_in : Option Asked → ℕ
page_in None = 0
page_in (Some a) = a.page

pub came : (host o p at object page : ℕ) (b : Bool) → (if b then Some (absent at object page) else None) ≡ Some (absent host o p)
    → Came host o p at object page b
came host o p at object page true is = record { counts = refl; host = ap (λ x. host_in x) is; object = ap (λ x. object_in x) is; page = ap (λ x. page_in x) is }
came host o p at object page false is = not_absent _ is

took_void : (header : Header) (outside : Outside) (host o p control : ℕ) (past : List Event) → is_file header o ≡ true
    → (is_control control (live_control host o past) && (page_on header host o p past).asked) ≡ true
    → (spot_after (zeros header) (spot header outside host o p past) (effect_taken_down o p (host == host && control == last_control host o past) o
    (message.Unavailable (record { 0 = p })))).void ≡ true
took_void header outside host o p control past file counts =
    hears_void (zeros header) (spot header outside host o p past) ((host == host && control == last_control host o past) && (o == o && p == p))
    (rw (itself host, itself o, itself p, newest) refl) lives (i.asked
    ∙ second (is_control control (live_control host o past)) (page_on header host o p past).asked counts) (i.file ∙ file)
  where
    i : SpotIsLocal (is_file header o) (last_control host o past) (live_control host o past) (spot header outside host o p past) (page_on header host o p past)
    i = spot_is_local header outside past host o p

    both : ((spot header outside host o p past).control == 1 && control == last_control host o past) ≡ true
    both =
        sym (is_live (last_control host o past) (live_control host o past) (spot header outside host o p past) control i.control)
        ∙ first (is_control control (live_control host o past)) (page_on header host o p past).asked counts

    lives : ((spot header outside host o p past).control == 1) ≡ true
    lives = first ((spot header outside host o p past).control == 1) (control == last_control host o past) both

    newest : (control == last_control host o past) ≡ true
    newest = second ((spot header outside host o p past).control == 1) (control == last_control host o past) both

taken_void : (header : Header) (outside : Outside) (host o p : ℕ) (at : HostId) (object : ObjectId) (control : ℕ) (m : Message) (past : List Event)
    → is_file header o ≡ true
    → absence_taken header (event.Taken (Down at object control) m ∷ past) ≡ Some (absent host o p)
    → (spot header outside host o p (event.Taken (Down at object control) m ∷ past)).void ≡ true
taken_void header outside host o p at object control (message.Unavailable page) past file is =
    let c : Came host o p at.0 object.0 page.0 (is_control control (live_control at.0 object.0 past) && (page_on header at.0 object.0 page.0 past).asked) = came
    host o p at.0 object.0 page.0 _ is in
    subst (λ (h : ℕ). (spot_after (zeros header) (spot header outside host o p past)
    (effect_taken_down o p (h == host && control == last_control host object.0 past) object.0 (message.Unavailable (record { 0 = page.0 })))).void ≡ true)
    (sym c.host)
    (subst (λ (k : ℕ). (spot_after (zeros header) (spot header outside host o p past)
    (effect_taken_down o p (host == host && control == last_control host k past) k (message.Unavailable (record { 0 = page.0 })))).void ≡ true)
    (sym c.object)
    (subst (λ (q : ℕ). (spot_after (zeros header) (spot header outside host o p past)
    (effect_taken_down o p (host == host && control == last_control host o past) o (message.Unavailable (record { 0 = q })))).void ≡ true) (sym c.page)
    (took_void header outside host o p control past file
    (subst (λ (h : ℕ). (is_control control (live_control h o past) && (page_on header h o p past).asked) ≡ true) c.host
    (subst (λ (k : ℕ). (is_control control (live_control at.0 k past) && (page_on header at.0 k p past).asked) ≡ true) c.object
    (subst (λ (q : ℕ). (is_control control (live_control at.0 object.0 past) && (page_on header at.0 object.0 q past).asked) ≡ true) c.page c.counts))))))
taken_void header outside host o p at object control other past file is = not_absent _ is

pub void_is : (header : Header) (outside : Outside) (host o p : ℕ) (past : List Event) → EachEvent (HasCause header outside) past → is_file header o ≡ true
    → absence_taken header past ≡ Some (absent host o p) → since (zeroes o p) past ≡ false → (spot header outside host o p past).void ≡ true
void_is header outside host o p [] caused file is none = not_absent _ is
void_is header outside host o p (event.Line line ∷ past) caused file is none = not_absent _ is
void_is header outside host o p (event.Taken (Up at object) m ∷ past) caused file is none = not_absent _ is
void_is header outside host o p (event.Taken (Down at object control) m ∷ past) caused file is none =
    taken_void header outside host o p at object control m past file is
void_is header outside host o p (event.Zeroed at object page ∷ past) caused file is none =
    let no : ((object.0 == o && page.0 == p) ≡ false) × (since (zeroes o p) past ≡ false) = both_no (object.0 == o && page.0 == p) (since (zeroes o p) past)
    none in
    zeroed_void (zeros header) (spot header outside host o p past) (at.0 == host) (object.0 == o && page.0 == p) no.0
    ∙ void_is header outside host o p past caused.1 file is no.1
void_is header outside host o p (event.Dropped at object page ∷ past) caused file is none =
    void_if _ _ (at.0 == host && (object.0 == o && page.0 == p)) Drops Nothing (λ b. refl) refl ∙ void_is header outside host o p past caused.1 file is none
void_is header outside host o p (event.Raised at lower lower_page upper upper_page ∷ past) caused file is none =
    void_if _ _ (at.0 == host && (upper.0 == o && upper_page.0 == p)) (Raises (spot header outside host lower.0 lower_page.0 past).bytes) Nothing (λ b. refl)
    refl ∙ void_is header outside host o p past caused.1 file is none
void_is header outside host o p (event.Stored task object page at size value ∷ past) caused file is none =
    void_if _ _ (lives_on host task.0 past && (object.0 == o && page.0 == p)) (Stores at (little_endian_bytes size value)) Nothing (λ b. refl) refl
    ∙ void_is header outside host o p past caused.1 file is none
void_is header outside host o p (event.CopiedPage task page object object_page target ∷ past) caused file is none =
    void_if _ _ (lives_on host task.0 past && (target.0 == o && page.0 == p)) (Raises (spot header outside host object.0 object_page.0 past).bytes) Nothing
    (λ b. refl) refl ∙ void_is header outside host o p past caused.1 file is none
void_is header outside host o p (event.Merged upper lower ∷ past) caused file is none =
    merge_keeps (λ s. s.void) (λ z s bytes dirty. refl) (λ z s. refl) header outside host o p upper lower past
    ∙ void_is header outside host o p past caused.1 file is none
void_is header outside host o p (event.Sent (Up at object) m ∷ past) caused file is none =
    sent_up_void (zeros header) (spot header outside host o p past) o p (at.0 == host) (live_control host object.0 past) object.0 m
    ∙ void_is header outside host o p past caused.1 file is none
void_is header outside host o p (event.Sent (Down at object control) m ∷ past) caused file is none =
    sent_down_void header outside caused.0.0 (zeros header) (spot header outside host o p past) o p at.0 object.0 control
    (at.0 == host && control == last_control host object.0 past) (is_said header outside object.0) m past (absent host o p) is may
    ∙ void_is header outside host o p past caused.1 file is (both_no false (since (zeroes o p) past) none).1
  where
    may : (object.0 == o) ≡ true → MaySendDown header outside caused.0.0 at.0 object.0 control m past
    may same =
        paged_may header outside caused.0.0 at.0 object.0 control m past (ap (λ (k : ℕ). is_paged header k) (number_is object.0 o same)
        ∙ file_paged header o file) caused.0.1
void_is header outside host o p (e ∷ past) caused file is none = void_is header outside host o p past caused.1 file is none
