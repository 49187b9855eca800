-- What a place says of its pager and of the present step is what the history says.
use Rattle.std.proofs.Common.{ℕ, ◌≡◌, List, [], ◌∷◌, Bool, true, false, Option, Some, None, if◌then◌else◌, refl, sym, ap, subst, ◌∙◌, arith}
use Rattle.std.proofs.lemmas.Bool.Decides.{nat_tests}
use Rattle.std.specs.Prelude.{◌==◌, ◌&&◌, ◌||◌}
use Rattle.vm_base.specs.Pages.{little_endian_bytes}
use Rattle.vm_model.specs.declared.event.Event.{Event}
use Rattle.vm_model.specs.declared.event.Event.TheVariants as event
use Rattle.vm_model.specs.declared.message.Channel.TheVariants.{Up, Down}
use Rattle.vm_model.specs.declared.message.Message.{Message}
use Rattle.vm_model.specs.declared.message.Message.TheVariants as message
use Rattle.vm_model.specs.declared.script.Header.{Header}
use Rattle.vm_model.specs.Controls.{last_control, live_control}
use Rattle.vm_legal.specs.Licences.{pager_has, up}
use Rattle.vm_legal.specs.Living.{lives_on}
use Rattle.vm_legal.specs.Outside.{Outside, is_file, is_said, start_page, zeros}
use Rattle.vm_legal.specs.Pagers.{last_return, newer, returned_in}
use Rattle.vm_legal.specs.Steps.{Letter, answers, is_answer, since, taken_letter}
use Rattle.vm_flat.proofs.MergeEffects.{merge_keeps}
use Rattle.vm_flat.specs.Places.{effect_sent_up, effect_taken_up, effect_sent_down, effect_taken_down, spot}
use Rattle.vm_flat.specs.Spot.{Spot, spot_after}
use Rattle.vm_flat.specs.Words.{SpotDownWord, Supplying, Unavailing, Erring, SpotEffect, Creates, TakesRequest, TakesReturn, Answers, Takes, Zeroes, Raises}
use Rattle.vm_flat.specs.Words.{Stores, Drops, Ends, StepEnds, Nothing}
use Rattle.vm_flat.proofs.Lives.{itself}
use Rattle.vm_flat.proofs.Sustained.{request_taken}

pub both_no : (a b : Bool) → (a || b) ≡ false → (a ≡ false) × (b ≡ false)
both_no true b is = absurd (let bad : true ≡ false = is in cc)
both_no false b is = (refl, is)

-- what the pager has

-- what the place keeps stays
kept_if : (z : List ℕ) (s : Spot) (b : Bool) (e f : SpotEffect) → (b ≡ true → (spot_after z s e).kept ≡ s.kept) → (spot_after z s f).kept ≡ s.kept
    → (spot_after z s (if b then e else f)).kept ≡ s.kept
kept_if z s true e f one two = one refl
kept_if z s false e f one two = two

sent_up_kept : (z : List ℕ) (s : Spot) (o p : ℕ) (own : Bool) (live : Option ℕ) (object : ℕ) (m : Message)
    → (spot_after z s (effect_sent_up o p own live object m)).kept ≡ s.kept
sent_up_kept z s o p own live object (message.Init control size) = kept_if z s (own && object == o) Creates Nothing (λ b. refl) refl
sent_up_kept z s o p own live object (message.Create control size) = kept_if z s (own && object == o) Creates Nothing (λ b. refl) refl
sent_up_kept z s o p own live object (message.Request control page access) = kept_if z s (own && (object == o && page.0 == p)) _ Nothing (λ b. refl) refl
sent_up_kept z s o p own live object (message.Return control page dirty keep bytes) =
    kept_if z s (own && (object == o && page.0 == p)) _ Nothing (λ b. refl) refl
sent_up_kept z s o p own live object (message.Terminate control) = kept_if z s _ Ends Nothing (λ b. refl) refl
sent_up_kept z s o p own live object other = refl

second : (a b : Bool) → (a && b) ≡ true → b ≡ true
second true b is = is
second false b is = absurd (let bad : false ≡ true = is in cc)

first : (a b : Bool) → (a && b) ≡ true → a ≡ true
first true b is = refl
first false b is = is

answered_kept : (z : List ℕ) (s : Spot) (own tells here there : Bool) (word : SpotDownWord) → (here ≡ true → tells ≡ false)
    → (spot_after z s (if own && (here && there) then Answers tells word else Nothing)).kept ≡ s.kept
answered_kept z s own tells here there word silent =
    kept_if z s (own && (here && there)) (Answers tells word) Nothing (λ b. quiet tells (silent (first here there (second own (here && there) b)))) refl
  where
    quiet : (t : Bool) → t ≡ false → (spot_after z s (Answers t word)).kept ≡ s.kept
    quiet false is = refl
    quiet true is = absurd (let bad : true ≡ false = is in cc)

sent_down_kept : (z : List ℕ) (s : Spot) (o p : ℕ) (own tells : Bool) (object : ℕ) (m : Message) → ((object == o) ≡ true → tells ≡ false)
    → (spot_after z s (effect_sent_down o p own tells object m)).kept ≡ s.kept
sent_down_kept z s o p own tells object (message.Supply page lock precious bytes) silent =
    answered_kept z s own tells (object == o) (page.0 == p) (Supplying bytes) silent
sent_down_kept z s o p own tells object (message.Unavailable page) silent = answered_kept z s own tells (object == o) (page.0 == p) Unavailing silent
sent_down_kept z s o p own tells object (message.Error page reason) silent = answered_kept z s own tells (object == o) (page.0 == p) Erring silent
sent_down_kept z s o p own tells object other silent = refl

taken_down_kept : (z : List ℕ) (s : Spot) (o p : ℕ) (own : Bool) (object : ℕ) (m : Message)
    → (spot_after z s (effect_taken_down o p own object m)).kept ≡ s.kept
taken_down_kept z s o p own object (message.Supply page lock precious bytes) =
    kept_if z s (own && (object == o && page.0 == p)) (Takes (Supplying bytes)) StepEnds (λ b. refl) refl
taken_down_kept z s o p own object (message.Unavailable page) = kept_if z s (own && (object == o && page.0 == p)) (Takes Unavailing) StepEnds (λ b. refl) refl
taken_down_kept z s o p own object (message.Error page reason) = kept_if z s (own && (object == o && page.0 == p)) (Takes Erring) StepEnds (λ b. refl) refl
taken_down_kept z s o p own object other = refl

-- nothing newer, or the same place's
either : (b : Bool) (new old : Option (List ℕ)) → new ≡ None → (if b then newer new old else old) ≡ old
either true new old none = ap (λ (x : Option (List ℕ)). newer x old) none
either false new old none = refl

taken_up_kept : (z : List ℕ) (s : Spot) (o p : ℕ) (own : Bool) (object : ℕ) (m : Message) (was first : Option (List ℕ)) → s.kept ≡ newer was first
    → (spot_after z s (effect_taken_up o p own object m)).kept ≡ newer (if own && object == o then newer (returned_in p m) was else was) first
taken_up_kept z s o p own object (message.Request control page access) was first is =
    kept_if z s (own && (object == o && page.0 == p)) TakesRequest StepEnds (λ b. refl) refl ∙ is
    ∙ ap (λ (x : Option (List ℕ)). newer x first) (sym (either (own && object == o) None was refl))
taken_up_kept z s o p own object (message.Return control page dirty keep bytes) was first is = returned own (object == o) (page.0 == p)
  where
    returned : (a b c : Bool) → (spot_after z s (if a && (b && c) then TakesReturn bytes else StepEnds)).kept ≡ newer
        (if a && b then newer (if c then Some bytes else None) was else was) first
    returned true true true = refl
    returned true true false = is
    returned true false c = is
    returned false b c = is
taken_up_kept z s o p own object (message.Init control size) was first is =
    is ∙ ap (λ (x : Option (List ℕ)). newer x first) (sym (either (own && object == o) None was refl))
taken_up_kept z s o p own object (message.Create control size) was first is =
    is ∙ ap (λ (x : Option (List ℕ)). newer x first) (sym (either (own && object == o) None was refl))
taken_up_kept z s o p own object other was first is = is ∙ ap (λ (x : Option (List ℕ)). newer x first) (sym (either (own && object == o) None was refl))

number_is : (a b : ℕ) → (a == b) ≡ true → a ≡ b
number_is a b is = grind (arith, nat_tests)

pub kept_is : (header : Header) (outside : Outside) (host o p : ℕ) (past : List Event) → is_said header outside o ≡ false
    → (spot header outside host o p past).kept ≡ pager_has header outside host o p past
kept_is header outside host o p [] silent = by_file (is_file header o)
  where
    by_file : (b : Bool) → (if b then Some (start_page header outside o p) else None) ≡ newer None (if b then Some (start_page header outside o p) else None)
    by_file true = refl
    by_file false = refl
kept_is header outside host o p (event.Zeroed at object page ∷ past) silent =
    kept_if _ _ (at.0 == host && (object.0 == o && page.0 == p)) Zeroes Nothing (λ b. refl) refl ∙ kept_is header outside host o p past silent
kept_is header outside host o p (event.Dropped at object page ∷ past) silent =
    kept_if _ _ (at.0 == host && (object.0 == o && page.0 == p)) Drops Nothing (λ b. refl) refl ∙ kept_is header outside host o p past silent
kept_is header outside host o p (event.Raised at lower lower_page upper upper_page ∷ past) silent =
    kept_if _ _ (at.0 == host && (upper.0 == o && upper_page.0 == p)) (Raises (spot header outside host lower.0 lower_page.0 past).bytes) Nothing (λ b. refl)
    refl ∙ kept_is header outside host o p past silent
kept_is header outside host o p (event.Stored task object page at size value ∷ past) silent =
    kept_if _ _ (lives_on host task.0 past && (object.0 == o && page.0 == p)) (Stores at (little_endian_bytes size value)) Nothing (λ b. refl) refl
    ∙ kept_is header outside host o p past silent
kept_is header outside host o p (event.CopiedPage task page object object_page target ∷ past) silent =
    kept_if _ _ (lives_on host task.0 past && (target.0 == o && page.0 == p)) (Raises (spot header outside host object.0 object_page.0 past).bytes) Nothing
    (λ b. refl) refl ∙ kept_is header outside host o p past silent
kept_is header outside host o p (event.Sent (Up at object) m ∷ past) silent =
    sent_up_kept (zeros header) (spot header outside host o p past) o p (at.0 == host) (live_control host object.0 past) object.0 m
    ∙ kept_is header outside host o p past silent
kept_is header outside host o p (event.Sent (Down at object control) m ∷ past) silent =
    sent_down_kept (zeros header) (spot header outside host o p past) o p (at.0 == host && control == last_control host object.0 past)
    (is_said header outside object.0) object.0 m (λ same. ap (λ (k : ℕ). is_said header outside k) (number_is object.0 o same) ∙ silent)
    ∙ kept_is header outside host o p past silent
kept_is header outside host o p (event.Taken (Up at object) m ∷ past) silent =
    taken_up_kept (zeros header) (spot header outside host o p past) o p (at.0 == host) object.0 m (last_return host o p past)
    (if is_file header o then Some (start_page header outside o p) else None) (kept_is header outside host o p past silent)
kept_is header outside host o p (event.Taken (Down at object control) m ∷ past) silent =
    taken_down_kept (zeros header) (spot header outside host o p past) o p (at.0 == host && control == last_control host object.0 past) object.0 m
    ∙ kept_is header outside host o p past silent
kept_is header outside host o p (event.Merged upper lower ∷ past) silent =
    merge_keeps (λ s. s.kept) (λ z s bytes dirty. refl) (λ z s. refl) header outside host o p upper lower past ∙ kept_is header outside host o p past silent
kept_is header outside host o p (e ∷ past) silent = kept_is header outside host o p past silent

-- the request that the step took

step_if : (z : List ℕ) (s : Spot) (b : Bool) (e f : SpotEffect) → (b ≡ true → (spot_after z s e).step ≡ s.step) → (spot_after z s f).step ≡ s.step
    → (spot_after z s (if b then e else f)).step ≡ s.step
step_if z s true e f one two = one refl
step_if z s false e f one two = two

sent_up_step : (z : List ℕ) (s : Spot) (o p : ℕ) (own : Bool) (live : Option ℕ) (object : ℕ) (m : Message)
    → (spot_after z s (effect_sent_up o p own live object m)).step ≡ s.step
sent_up_step z s o p own live object (message.Init control size) = step_if z s (own && object == o) Creates Nothing (λ b. refl) refl
sent_up_step z s o p own live object (message.Create control size) = step_if z s (own && object == o) Creates Nothing (λ b. refl) refl
sent_up_step z s o p own live object (message.Request control page access) = step_if z s (own && (object == o && page.0 == p)) _ Nothing (λ b. refl) refl
sent_up_step z s o p own live object (message.Return control page dirty keep bytes) =
    step_if z s (own && (object == o && page.0 == p)) _ Nothing (λ b. refl) refl
sent_up_step z s o p own live object (message.Terminate control) = step_if z s _ Ends Nothing (λ b. refl) refl
sent_up_step z s o p own live object other = refl

unanswered : (z : List ℕ) (s : Spot) (own here tells : Bool) (word : SpotDownWord) → here ≡ false
    → (spot_after z s (if own && here then Answers tells word else Nothing)).step ≡ s.step
unanswered z s true false tells word is = refl
unanswered z s false here tells word is = refl
unanswered z s true true tells word is = absurd (let bad : true ≡ false = is in cc)

sent_down_step : (z : List ℕ) (s : Spot) (o p : ℕ) (own tells : Bool) (object : ℕ) (m : Message) → (object == o && is_answer p m) ≡ false
    → (spot_after z s (effect_sent_down o p own tells object m)).step ≡ s.step
sent_down_step z s o p own tells object (message.Supply page lock precious bytes) other =
    unanswered z s own (object == o && page.0 == p) tells (Supplying bytes) other
sent_down_step z s o p own tells object (message.Unavailable page) other = unanswered z s own (object == o && page.0 == p) tells Unavailing other
sent_down_step z s o p own tells object (message.Error page reason) other = unanswered z s own (object == o && page.0 == p) tells Erring other
sent_down_step z s o p own tells object m other = refl

-- a request for the page, from this control
abbrev pub asking : ℕ → ℕ → ℕ → ℕ → ℕ → Letter
asking host o control p access = record { channel = up host o; message = message.Request control (record { 0 = p }) access }

abbrev pub letter_in : Letter → Option Letter → Letter
letter_in other None = other
letter_in other (Some letter) = letter

pub letter_is : (one two : Letter) → Some one ≡ Some two → one ≡ two
letter_is one two is = ap (λ (x : Option Letter). letter_in one x) is

pub not_taken : {A : Type 0} (one : Letter) → ◌≡◌ {A = Option Letter} None (Some one) → A
not_taken one is = absurd (cc)

begins : (header : Header) (outside : Outside) (host o p control access : ℕ) (past : List Event)
    → (spot header outside host o p (event.Taken (up host o) (message.Request control (record { 0 = p }) access) ∷ past)).step ≡ true
begins header outside host o p control access past = rw (itself host, itself o, itself p) refl

pub step_is : (header : Header) (outside : Outside) (host o control p access : ℕ) (past : List Event)
    → taken_letter past ≡ Some (asking host o control p access) → since (answers o p) past ≡ false → (spot header outside host o p past).step ≡ true
step_is header outside host o control p access [] is none = not_taken _ is
step_is header outside host o control p access (event.Line line ∷ past) is none = not_taken _ is
step_is header outside host o control p access (event.Taken channel m ∷ past) is none =
    subst (λ (l : Letter). (spot header outside host o p (event.Taken l.channel l.message ∷ past)).step ≡ true)
    (sym (letter_is (record { channel = channel; message = m }) (asking host o control p access) is)) (begins header outside host o p control access past)
step_is header outside host o control p access (event.Zeroed at object page ∷ past) is none =
    step_if _ _ (at.0 == host && (object.0 == o && page.0 == p)) Zeroes Nothing (λ b. refl) refl ∙ step_is header outside host o control p access past is none
step_is header outside host o control p access (event.Dropped at object page ∷ past) is none =
    step_if _ _ (at.0 == host && (object.0 == o && page.0 == p)) Drops Nothing (λ b. refl) refl ∙ step_is header outside host o control p access past is none
step_is header outside host o control p access (event.Raised at lower lower_page upper upper_page ∷ past) is none =
    step_if _ _ (at.0 == host && (upper.0 == o && upper_page.0 == p)) (Raises (spot header outside host lower.0 lower_page.0 past).bytes) Nothing (λ b. refl)
    refl ∙ step_is header outside host o control p access past is none
step_is header outside host o control p access (event.Stored task object page at size value ∷ past) is none =
    step_if _ _ (lives_on host task.0 past && (object.0 == o && page.0 == p)) (Stores at (little_endian_bytes size value)) Nothing (λ b. refl) refl
    ∙ step_is header outside host o control p access past is none
step_is header outside host o control p access (event.CopiedPage task page object object_page target ∷ past) is none =
    step_if _ _ (lives_on host task.0 past && (target.0 == o && page.0 == p)) (Raises (spot header outside host object.0 object_page.0 past).bytes) Nothing
    (λ b. refl) refl ∙ step_is header outside host o control p access past is none
step_is header outside host o control p access (event.Sent (Up at object) m ∷ past) is none =
    sent_up_step (zeros header) (spot header outside host o p past) o p (at.0 == host) (live_control host object.0 past) object.0 m
    ∙ step_is header outside host o control p access past is none
step_is header outside host o control p access (event.Sent (Down at object number) m ∷ past) is none =
    let no : ((object.0 == o && is_answer p m) ≡ false)
    × (since (answers o p) past ≡ false) = both_no (object.0 == o && is_answer p m) (since (answers o p) past) none in
    sent_down_step (zeros header) (spot header outside host o p past) o p (at.0 == host && number == last_control host object.0 past)
    (is_said header outside object.0) object.0 m no.0 ∙ step_is header outside host o control p access past is no.1
step_is header outside host o control p access (event.Merged upper lower ∷ past) is none =
    merge_keeps (λ s. s.step) (λ z s bytes dirty. refl) (λ z s. refl) header outside host o p upper lower past
    ∙ step_is header outside host o control p access past is none
step_is header outside host o control p access (e ∷ past) is none = step_is header outside host o control p access past is none

pub request_is : (host o control p access : ℕ) (past : List Event) → taken_letter past ≡ Some (asking host o control p access)
    → request_taken past ≡ Some (record { host = host; object = o; control_of = control; page = p })
request_is host o control p access [] is = not_taken _ is
request_is host o control p access (event.Line line ∷ past) is = not_taken _ is
request_is host o control p access (event.Taken channel m ∷ past) is =
    subst (λ (l : Letter). request_taken (event.Taken l.channel l.message ∷ past) ≡ Some (record { host = host; object = o; control_of = control; page = p }))
    (sym (letter_is (record { channel = channel; message = m }) (asking host o control p access) is)) refl
request_is host o control p access (e ∷ past) is = request_is host o control p access past is
