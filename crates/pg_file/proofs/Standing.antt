-- The pager stands for the history behind an answer.
use Rattle.std.proofs.Common.{ℕ, ◌≡◌, ◌≢◌, ◌==◌, ◌&&◌, not, Bool, true, false, List, [], ◌∷◌, ◌++◌, Option, Some, None, refl, sym, ◌∙◌, ap, subst, arith}
use Rattle.std.proofs.Common.{if◌then◌else◌}
use Rattle.std.proofs.lemmas.Bool.Decides.{nat_tests}
use Rattle.vm_base.specs.declared.ids.PageNo.{PageNo}
use Rattle.vm_model.specs.Controls.{without_control}
use Rattle.vm_model.specs.declared.event.Event.{Event}
use Rattle.vm_model.specs.declared.message.Message.{Message}
use Rattle.vm_model.specs.declared.message.Message.TheVariants as message
use Rattle.vm_model.specs.declared.script.Header.{Header}
use Rattle.vm_legal.specs.Outside.{is_file}
use Rattle.vm_legal.specs.Pagers.{known_after, known_control}
use Rattle.pg_file.specs.declared.pager.KnownControl.{KnownControl}
use Rattle.pg_file.specs.Answers.{CacheEvents, CleanEvents, FileAnswer, Greets, TellsKnown, cache_request, clean_request, is_stored, sent_to, told_of}
use Rattle.pg_file.specs.Files.{FileTable, MarksPage, has_lost, without_known}
use Rattle.pg_file.specs.Stands.{IsKnownAs, IsOther, PagerServes, PagerStands, new_table, taking}
use Rattle.pg_file.proofs.Facts.{Holds, Leaves, Returned, holds_taken, known_elsewhere, known_taken, known_there, leaves_all, nothing_new, on_sent}
use Rattle.pg_file.proofs.Facts.{others_leave, requested, returned}

pub start : (header : Header) (object : ℕ) → is_file header object ≡ true → PagerStands header object (new_table header object) []
start header object file = record { file = file; object_is = refl; name_is = refl; size_is = refl; known_is = λ h. refl; lost_is = λ p. refl }

known_same : (object : ℕ) (known : Option KnownControl) (past now : List Event) → ((h : ℕ) → known_control h object now ≡ known_control h object past)
    → IsKnownAs object known past → IsKnownAs object known now
known_same object None past now same is = λ h. same h ∙ is h
known_same object (Some known) past now same is = same known.host.0 ∙ is

-- events that change nothing that is said of the file
stays : (header : Header) (object : ℕ) (table : FileTable) (past now : List Event) → Leaves object past now → PagerStands header object table past
    → PagerStands header object table now
stays header object table past now leaves s = record {
  file = s.file;
  object_is = s.object_is;
  name_is = s.name_is;
  size_is = s.size_is;
  known_is = known_same object table.known past now leaves.known s.known_is;
  lost_is = λ p. s.lost_is p ∙ sym (leaves.holds.lost p);
}

-- another control is known now
turns : (header : Header) (object : ℕ) (old new : FileTable) (known : Option KnownControl) (past now : List Event) → new ≡ record old { known = known }
    → IsKnownAs object known now → Holds object past now → PagerStands header object old past
    → PagerStands header object new now
turns header object old new known past now is knows holds s = subst (λ (t : FileTable). PagerStands header object t now) (sym is) (record {
  file = s.file;
  object_is = s.object_is;
  name_is = s.name_is;
  size_is = s.size_is;
  known_is = knows;
  lost_is = λ p. s.lost_is p ∙ sym (holds.lost p);
})

greets : (header : Header) (host object control strategy : ℕ) (m : Message) (old new : FileTable) (past events : List Event)
    → known_after m (known_control host object past) ≡ Some control → Holds object past (taking host object m past)
    → Greets host control strategy old new events → PagerStands header object old past → PagerStands header object new (events ++ taking host object m past)
greets header host object control strategy m old new past events knows holds a s =
    stays header object new (taking host object m past) _ (leaves_all object events _ _ a.1 (on_sent object host old.object control _ _))
    (turns header object old new (Some (record { host = record { 0 = host }; control = control })) past (taking host object m past) a.0
    (known_there host object m past ∙ knows) holds s)

quietly : (header : Header) (host object : ℕ) (m : Message) (old new : FileTable) (past events : List Event)
    → ((h : ℕ) → known_control h object (taking host object m past) ≡ known_control h object past) → Holds object past (taking host object m past)
    → Leaves object (taking host object m past) (events ++ taking host object m past) → new ≡ old → PagerStands header object old past
    → PagerStands header object new (events ++ taking host object m past)
quietly header host object m old new past events known holds leaves same s =
    subst (λ (t : FileTable). PagerStands header object t (events ++ taking host object m past)) (sym same)
    (stays header object old (taking host object m past) _ leaves (stays header object old past _ (record { known = known; holds = holds }) s))

-- what is known once a control of the one host has ended
none_without : (control : ℕ) (was : Option ℕ) → was ≡ None → without_control control was ≡ None
none_without control was is = rw is refl

forgets : (host object control : ℕ) (known : Option KnownControl) (past : List Event) → ((other : ℕ) → other ≢ host → known_control other object past ≡ None)
    → IsKnownAs object known past
    → IsKnownAs object (without_known host control known) (taking host object (message.Terminate control) past)
forgets host object control None past own is = λ h. by h (host == h) refl
  where
    by : (h : ℕ) (b : Bool) → (host == h) ≡ b → known_control h object (taking host object (message.Terminate control) past) ≡ None
    by h true here = let same : host ≡ h = grind (arith, nat_tests, here) in
        subst (λ (k : ℕ). known_control k object (taking host object (message.Terminate control) past) ≡ None) same
        (known_there host object (message.Terminate control) past ∙ none_without control _ (is host))
    by h false apart = known_elsewhere host object h (message.Terminate control) past apart ∙ is h
forgets host object control (Some known) past own is = by (known.host.0 == host) (known.control == control) refl refl
  where
    at : Message
    at = message.Terminate control

    ended : (k c : ℕ) (was : Option ℕ) → was ≡ Some k → (k == c) ≡ true → without_control c was ≡ None
    ended k c was now same = rw (now, same) refl

    left : (k c : ℕ) (was : Option ℕ) → was ≡ Some k → (k == c) ≡ false → without_control c was ≡ Some k
    left k c was now other = rw (now, other) refl

    none : (known.host.0 == host) ≡ true → (known.control == control) ≡ true → (h : ℕ) (b : Bool) → (host == h) ≡ b
        → known_control h object (taking host object at past) ≡ None
    none here same h true there =
        let one : known.host.0 ≡ host = grind (arith, nat_tests, here) in
        let two : host ≡ h = grind (arith, nat_tests, there) in
        subst (λ (k : ℕ). known_control k object (taking host object at past) ≡ None) two
        (known_there host object at past ∙ ended known.control control _ (subst (λ (k : ℕ). known_control k object past ≡ Some known.control) one is) same)
    none here same h false there =
        let apart : h ≢ host = grind (arith, nat_tests, there) in
        known_elsewhere host object h at past there ∙ own h apart

    some : (known.host.0 == host) ≡ true → (known.control == control) ≡ false
        → known_control known.host.0 object (taking host object at past) ≡ Some known.control
    some here other =
        let one : host ≡ known.host.0 = grind (arith, nat_tests, here) in
        subst (λ (k : ℕ). known_control k object (taking host object at past) ≡ Some known.control) one
        (known_there host object at past ∙ left known.control control _ (subst (λ (k : ℕ). known_control k object past ≡ Some known.control) (sym one) is)
        other)

    away : (known.host.0 == host) ≡ false → known_control known.host.0 object (taking host object at past) ≡ Some known.control
    away there = let apart : (host == known.host.0) ≡ false = grind (arith, nat_tests, there) in known_elsewhere host object known.host.0 at past apart ∙ is

    by : (a b : Bool) → (known.host.0 == host) ≡ a → (known.control == control) ≡ b
        → IsKnownAs object (if a && b then None else Some known) (taking host object at past)
    by true true here same = λ h. none here same h (host == h) refl
    by true false here other = some here other
    by false b there same = away there

terminates : (header : Header) (host object control : ℕ) (old new : FileTable) (past : List Event)
    → ((other : ℕ) → other ≢ host → known_control other object past ≡ None)
    → new ≡ record old { known = without_known host control old.known } → PagerStands header object old past
    → PagerStands header object new (taking host object (message.Terminate control) past)
terminates header host object control old new past own is s =
    turns header object old new (without_known host control old.known) past _ is (forgets host object control old.known past own s.known_is)
    (holds_taken host object (message.Terminate control) past tt) s

returns : (header : Header) (host object page : ℕ) (bytes : List ℕ) (stored : Bool) (old new : FileTable) (past now : List Event)
    → Returned object page host bytes stored past now → MarksPage page (not stored) old new
    → PagerStands header object old past → PagerStands header object new now
returns header host object page bytes stored old new past now facts marks s = record {
  file = s.file;
  object_is = marks.object ∙ s.object_is;
  name_is = marks.name ∙ s.name_is;
  size_is = marks.size ∙ s.size_is;
  known_is = subst (λ (k : Option KnownControl). IsKnownAs object k now) (sym marks.known) (known_same object old.known past now facts.known s.known_is);
  lost_is = λ p. marks.at p ∙ ap (λ (was : Bool). if page == p then not stored else was) (s.lost_is p) ∙ sym (facts.lost p);
}

pub stands : (header : Header) (host : ℕ) (past : List Event) (object : ℕ) (m : Message) (old new : FileTable) (events : List Event)
    → PagerServes header host past object m old new events
    → PagerStands header object new (events ++ taking host object m past)
stands header host past object m old new events serves = by m serves.answered
  where
    by : (m : Message) → FileAnswer m host old new events → PagerStands header object new (events ++ taking host object m past)
    by (message.Init control size) a =
        greets header host object control 2 (message.Init control size) old new past events refl (holds_taken host object (message.Init control size) past tt) a
        serves.stands
    by (message.Create control size) a =
        greets header host object control 3 (message.Create control size) old new past events refl
        (holds_taken host object (message.Create control size) past tt) a serves.stands
    by (message.Request control page access) a =
        quietly header host object (message.Request control page access) old new past events
        (known_taken host object (message.Request control page access) past tt) (holds_taken host object (message.Request control page access) past tt)
        (requested object old.size host old.object control page (has_lost old page.0) events _ a.1) a.0 serves.stands
    by (message.Unlock control page access) a =
        quietly header host object (message.Unlock control page access) old new past events
        (known_taken host object (message.Unlock control page access) past tt) (holds_taken host object (message.Unlock control page access) past tt)
        (leaves_all object events _ _ a.1 (nothing_new object _)) a.0 serves.stands
    by (message.Completed control page count) a =
        quietly header host object (message.Completed control page count) old new past events
        (known_taken host object (message.Completed control page count) past tt) (holds_taken host object (message.Completed control page count) past tt)
        (leaves_all object events _ _ a.1 (nothing_new object _)) a.0 serves.stands
    by (message.Changed control cache strategy) a =
        quietly header host object (message.Changed control cache strategy) old new past events
        (known_taken host object (message.Changed control cache strategy) past tt) (holds_taken host object (message.Changed control cache strategy) past tt)
        (leaves_all object events _ _ a.1 (nothing_new object _)) a.0 serves.stands
    by (message.Return control page dirty keep bytes) a =
        let told : events ≡ told_of (is_stored events) object page = subst (λ (o : ℕ). events ≡ told_of (is_stored events) o page) serves.stands.object_is
        a.told in
        subst (λ (es : List Event). PagerStands header object new (es ++ taking host object (message.Return control page dirty keep bytes) past)) (sym told)
        (returns header host object page.0 bytes (is_stored events) old new past _ (returned host object control page dirty keep bytes (is_stored events) past)
        a.marks serves.stands)
    by (message.Terminate control) a =
        subst (λ (es : List Event). PagerStands header object new (es ++ taking host object (message.Terminate control) past)) (sym a.1)
        (terminates header host object control old new past serves.own a.0 serves.stands)
    by (message.Ready cache strategy) a = elim a [ ]
    by (message.Supply page lock precious bytes) a = elim a [ ]
    by (message.Unavailable page) a = elim a [ ]
    by (message.Error page reason) a = elim a [ ]
    by (message.Lock page count returns flush lock reply) a = elim a [ ]
    by (message.Attributes cache strategy reply) a = elim a [ ]
    by (message.Destroy reason) a = elim a [ ]

pub others : (header : Header) (object : ℕ) (table : FileTable) (e : Event) (past : List Event) → IsOther object e → PagerStands header object table past
    → PagerStands header object table (e ∷ past)
others header object table e past apart s = stays header object table past (e ∷ past) (others_leave object e past apart) s

-- what it says to the control that it knows leaves it as it was
stands_telling : (header : Header) (past : List Event) (object : ℕ) (table : FileTable) (m : Message) (events : List Event)
    → PagerStands header object table past → TellsKnown table.known table.object m events → PagerStands header object table (events ++ past)
stands_telling header past object table m events s a = stays header object table past _ (told table.known a) s
  where
    told : (known : Option KnownControl) → TellsKnown known table.object m events → Leaves object past (events ++ past)
    told None is = leaves_all object events [] past is (nothing_new object past)
    told (Some known) is =
        leaves_all object events (sent_to known.host.0 table.object known.control m ∷ []) past is
        (on_sent object known.host.0 table.object known.control m past)

pub clean_stands : (header : Header) (past : List Event) (object : ℕ) (table : FileTable) (page : PageNo) (count : ℕ) (flush : Bool) (events : List Event)
    → PagerStands header object table past → CleanEvents table.known table.object page count flush events
    → PagerStands header object table (events ++ past)
clean_stands header past object table page count flush events = stands_telling header past object table (clean_request page count flush) events

pub cache_stands : (header : Header) (past : List Event) (object : ℕ) (table : FileTable) (cache : Bool) (events : List Event)
    → PagerStands header object table past → CacheEvents table.known table.object cache events → PagerStands header object table (events ++ past)
cache_stands header past object table cache events = stands_telling header past object table (cache_request cache) events
