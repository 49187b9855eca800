-- What the file holds behind an answer.
use Rattle.std.proofs.Common.{ℕ, ◌≡◌, ◌≤◌, ◌<◌, ◌+◌, ◌*◌, ◌⊎◌, ◌==◌, not, Bool, true, false, List, [], ◌∷◌, ◌++◌, drop, length, Option, Some, None, Ok, refl}
use Rattle.std.proofs.Common.{sym, ◌∙◌, ap, subst, arith, inl, inr, ⊎_elim}
use Rattle.std.proofs.lemmas.Bool.{cases_lt, false≢true}
use Rattle.std.proofs.lemmas.Bool.Decides.{nat_tests}
use Rattle.std.specs.Prelude.{unwrap_or}
use Rattle.pg_answers.specs.Answers.{ReturnsWhole}
use Rattle.vm_base.specs.Listing.{Listed}
use Rattle.vm_model.specs.declared.event.Event.{Event}
use Rattle.vm_model.specs.declared.message.Message.{Message}
use Rattle.vm_model.specs.declared.message.Message.TheVariants as message
use Rattle.vm_model.specs.declared.script.Header.{Header}
use Rattle.vm_legal.specs.Pagers.{is_lost, last_return, newer}
use Rattle.vm_outside.specs.Areas.{AfterFault, SameAreas, Told, Torn, WriteTold, read_at, write_at}
use Rattle.vm_outside.specs.Bytes.{length-write_at, read_at-elsewhere, read_at-torn, read_at-written, torn_whole}
use Rattle.pg_file.proofs.Dropping.{drop-torn}
use Rattle.pg_file.specs.Answers.{FileAnswer, LeavesFile, is_stored, told_of, write_answer}
use Rattle.pg_file.specs.Files.{FileTable, has_lost}
use Rattle.pg_file.specs.Stands.{CarriesFile, FileKept, IsOther, PagerServes, taking}
use Rattle.pg_file.proofs.Facts.{Holds, Leaves, Returned, holds_taken, leaves_all, nothing_new, on_sent, others_leave, requested, returned}

pub empty : (size host object : ℕ) (start : Option (List ℕ)) → FileKept size host object start start []
empty size host object start = record { page = λ p kept. refl; least = omega arith; beyond = λ n none. refl }

pub kept_on : (size host object : ℕ) (start now : Option (List ℕ)) (past later : List Event) → Holds object past later
    → FileKept size host object start now past → FileKept size host object start now later
kept_on size host object start now past later holds kept = record {
  page = λ p stored.
      kept.page p (sym (holds.lost p) ∙ stored) ∙ ap (λ (was : Option (List ℕ)). newer was (Some (read_at (unwrap_or start []) (p * size) size)))
      (sym (holds.last host p));
  least = kept.least;
  beyond = λ n none. kept.beyond n (λ p above. sym (holds.last host p) ∙ none p above);
}

pub others_carry : (size host object : ℕ) (start now : Option (List ℕ)) (e : Event) (past : List Event) → IsOther object e
    → FileKept size host object start now past → FileKept size host object start now (e ∷ past)
others_carry size host object start now e past apart kept =
    let leaves = others_leave object e past apart in kept_on size host object start now past (e ∷ past) leaves.holds kept

-- two pages of a file don't meet
in_front : (p q size : ℕ) → p < q → p * size + size ≤ q * size
in_front p q size less = grind arith

pages_apart : (page p size n : ℕ) → n ≡ size → (page == p) ≡ false → (p * size + size ≤ page * size) ⊎ (page * size + n ≤ p * size)
pages_apart page p size n same differ = rw same (by (apart page p differ))
  where
    apart : (k q : ℕ) → (k == q) ≡ false → (q < k) ⊎ (k < q)
    apart k q other = grind (arith, nat_tests)

    by : (p < page) ⊎ (page < p) → (p * size + size ≤ page * size) ⊎ (page * size + size ≤ p * size)
    by (inl less) = inl (in_front p page size less)
    by (inr less) = inr (in_front page p size less)

-- one page of the file is other than before, and has these bytes if it is stored
record Writes (size page : ℕ) (bytes : List ℕ) (stored : Bool) (was now : Option (List ℕ)) : Type 0 where
  here : stored ≡ true → read_at (unwrap_or now []) (page * size) size ≡ bytes
  elsewhere : (p : ℕ) → (page == p) ≡ false → read_at (unwrap_or now []) (p * size) size ≡ read_at (unwrap_or was []) (p * size) size
  least : length (unwrap_or was []) ≤ length (unwrap_or now [])
  beyond : (n : ℕ) → page < n → drop (n * size) (unwrap_or now []) ≡ drop (n * size) (unwrap_or was [])

-- past the page a torn write leaves all as it was
dropped : (size page n : ℕ) (bytes was now : List ℕ) → length bytes ≡ size → page < n → Torn was (page * size) (length bytes) now
    → drop (n * size) now ≡ drop (n * size) was
dropped size page n bytes was now whole less left =
    let front = in_front page n size less in
    drop-torn was (page * size) (length bytes) now left (n * size) (omega (arith, front, whole))

written : (size page : ℕ) (bytes : List ℕ) (was : Option (List ℕ)) → length bytes ≡ size
    → Writes size page bytes true was (Some (write_at (unwrap_or was []) (page * size) bytes))
written size page bytes was whole = record {
  here =
      λ stored. subst (λ (n : ℕ). read_at (write_at (unwrap_or was []) (page * size) bytes) (page * size) n ≡ bytes) whole
      (read_at-written (unwrap_or was []) (page * size) bytes);
  elsewhere = λ p apart. read_at-elsewhere (unwrap_or was []) (page * size) bytes (p * size) size (pages_apart page p size (length bytes) whole apart);
  least = let long = length-write_at (unwrap_or was []) (page * size) bytes in grind arith;
  beyond =
      λ n less. dropped size page n bytes (unwrap_or was []) (write_at (unwrap_or was []) (page * size) bytes) whole less
      (torn_whole (unwrap_or was []) (page * size) bytes);
}

torn : (size page : ℕ) (bytes : List ℕ) (was now : Option (List ℕ)) → length bytes ≡ size → AfterFault was (page * size) (length bytes) now
    → Writes size page bytes false was now
torn size page bytes was None whole none = record {
  here = λ stored. absurd (false≢true stored);
  elsewhere = λ p apart. rw none refl;
  least = rw none (omega arith);
  beyond = λ n less. rw none refl;
}
torn size page bytes was (Some now) whole left = record {
  here = λ stored. absurd (false≢true stored);
  elsewhere =
      λ p apart. read_at-torn (unwrap_or was []) (page * size) (length bytes) now left (p * size) size (pages_apart page p size (length bytes) whole apart);
  least = left.least;
  beyond = λ n less. dropped size page n bytes (unwrap_or was []) now whole less left;
}

-- what a write of a page left
record Left (size page : ℕ) (bytes : List ℕ) (stored : Bool) (was : Option (List ℕ)) (after : Told) : Type 0 where
  now : Option (List ℕ)
  is : after ≡ Some now
  writes : Writes size page bytes stored was now

left_by : (before after : List ℕ → Told) (name : List ℕ) (size page : ℕ) (bytes : List ℕ) (stored : Bool) (was : Option (List ℕ)) → length bytes ≡ size
    → WriteTold before after name (page * size) bytes (write_answer stored) → before name ≡ Some was
    → Left size page bytes stored was (after name)
left_by before after name size page bytes true was whole told is =
    record { now = Some (write_at (unwrap_or was []) (page * size) bytes); is = told.written was is; writes = written size page bytes was whole }
left_by before after name size page bytes false was whole told is =
    let left = told.failed was is refl in
    record { now = left.0; is = left.1; writes = torn size page bytes was left.0 whole left.2 }

kept_returned : (size host object page : ℕ) (bytes : List ℕ) (stored : Bool) (start was now : Option (List ℕ)) (past later : List Event)
    → Returned object page host bytes stored past later → Writes size page bytes stored was now → FileKept size host object start was past
    → FileKept size host object start now later
kept_returned size host object page bytes stored start was now past later facts writes kept = record {
  page = λ p keeps. by p keeps (page == p) refl;
  least = let one = kept.least in let two = writes.least in omega (arith, one, two);
  beyond = λ n none. writes.beyond n (below n none) ∙ kept.beyond n (λ p above. unreturned n none p above);
}
  where
    itself : (k : ℕ) → (k == k) ≡ true
    itself k = grind (arith, nat_tests)

    -- the page was returned
    below : (n : ℕ) → ((p : ℕ) → n ≤ p → last_return host object p later ≡ None) → page < n
    below n none =
        ⊎_elim (λ less. less) (λ above. absurd (let last : last_return host object page later ≡ Some bytes = rw (itself page) at (facts.last page) in let bad :
        Some bytes ≡ None = sym last ∙ none page above in cc)) (cases_lt page n)

    unreturned : (n : ℕ) → ((p : ℕ) → n ≤ p → last_return host object p later ≡ None) → (p : ℕ) → n ≤ p → last_return host object p past ≡ None
    unreturned n none p above =
        let less = below n none in
        let apart : (page == p) ≡ false = grind (arith, nat_tests) in
        let last : last_return host object p later ≡ last_return host object p past = rw apart at (facts.last p) in
        sym last ∙ none p above

    begun : ℕ → Option (List ℕ)
    begun p = Some (read_at (unwrap_or start []) (p * size) size)

    is_kept : (s : Bool) → not s ≡ false → s ≡ true
    is_kept true is = refl
    is_kept false is = sym is

    by : (p : ℕ) → is_lost object p later ≡ false → (b : Bool) → (page == p) ≡ b
        → Some (read_at (unwrap_or now []) (p * size) size) ≡ newer (last_return host object p later) (Some (read_at (unwrap_or start []) (p * size) size))
    by p keeps true same =
        let here : page ≡ p = grind (arith, nat_tests, same) in
        let last : last_return host object p later ≡ Some bytes = rw same at (facts.last p) in
        let lost : is_lost object p later ≡ not stored = rw same at (facts.lost p) in
        let bytes_are : read_at (unwrap_or now []) (p * size) size ≡ bytes = subst (λ (q : ℕ). read_at (unwrap_or now []) (q * size) size ≡ bytes) here
        (writes.here (is_kept stored (sym lost ∙ keeps))) in
        rw last (ap Some bytes_are)
    by p keeps false apart =
        let last : last_return host object p later ≡ last_return host object p past = rw apart at (facts.last p) in
        let lost : is_lost object p later ≡ is_lost object p past = rw apart at (facts.lost p) in
        rw last (ap Some (writes.elsewhere p apart) ∙ kept.page p (sym lost ∙ keeps))

-- the areas are as before, and so is all that was returned and lost
carried_same : (size host object : ℕ) (name : List ℕ) (before after : List ℕ → Told) (past later : List Event) → SameAreas before after
    → Holds object past later → CarriesFile size host object name before after past later
carried_same size host object name before after past later same holds = record {
  kept = λ start was told kept. (was, same name was told, kept_on size host object start was past later holds kept);
  others = λ other was apart told. same other was told;
}

carried_returned : (size host object page : ℕ) (name bytes : List ℕ) (stored : Bool) (before after : List ℕ → Told) (past later : List Event)
    → length bytes ≡ size → Returned object page host bytes stored past later
    → WriteTold before after name (page * size) bytes (write_answer stored) → CarriesFile size host object name before after past later
carried_returned size host object page name bytes stored before after past later whole facts told = record {
  kept = λ start was is kept.
      let left = left_by before after name size page bytes stored was whole told is in
      (left.now, left.is, kept_returned size host object page bytes stored start was left.now past later facts left.writes kept);
  others = told.others;
}

both_hold : (object : ℕ) (past middle later : List Event) → Holds object past middle → Holds object middle later → Holds object past later
both_hold object past middle later one two = record { last = λ h p. two.last h p ∙ one.last h p; lost = λ p. two.lost p ∙ one.lost p }

pub carries : (header : Header) (host : ℕ) (past : List Event) (object : ℕ) (m : Message) (old new : FileTable) (events : Listed Event)
    (before after : List ℕ → Told)
    → PagerServes header host past object m old new events.items → LeavesFile m old before after (Ok events)
    → CarriesFile header.size host object old.name before after past (events.items ++ taking host object m past)
carries header host past object m old new events before after serves leaves = by m serves.answered serves.whole leaves
  where
    quiet : (m : Message) → SameAreas before after → Holds object past (taking host object m past)
        → Leaves object (taking host object m past) (events.items ++ taking host object m past)
        → CarriesFile header.size host object old.name before after past (events.items ++ taking host object m past)
    quiet m same holds left =
        carried_same header.size host object old.name before after past _ same (both_hold object past (taking host object m past) _ holds left.holds)

    by : (m : Message) → FileAnswer m host old new events.items → ReturnsWhole old.size m → LeavesFile m old before after (Ok events)
        → CarriesFile header.size host object old.name before after past (events.items ++ taking host object m past)
    by (message.Init control size) a w l =
        quiet (message.Init control size) l (holds_taken host object (message.Init control size) past tt)
        (leaves_all object events.items _ _ a.1 (on_sent object host old.object control _ _))
    by (message.Create control size) a w l =
        quiet (message.Create control size) l (holds_taken host object (message.Create control size) past tt)
        (leaves_all object events.items _ _ a.1 (on_sent object host old.object control _ _))
    by (message.Request control page access) a w l =
        quiet (message.Request control page access) l (holds_taken host object (message.Request control page access) past tt)
        (requested object old.size host old.object control page (has_lost old page.0) events.items _ a.1)
    by (message.Unlock control page access) a w l =
        quiet (message.Unlock control page access) l (holds_taken host object (message.Unlock control page access) past tt)
        (leaves_all object events.items _ _ a.1 (nothing_new object _))
    by (message.Completed control page count) a w l =
        quiet (message.Completed control page count) l (holds_taken host object (message.Completed control page count) past tt)
        (leaves_all object events.items _ _ a.1 (nothing_new object _))
    by (message.Changed control cache strategy) a w l =
        quiet (message.Changed control cache strategy) l (holds_taken host object (message.Changed control cache strategy) past tt)
        (leaves_all object events.items _ _ a.1 (nothing_new object _))
    by (message.Terminate control) a w l =
        quiet (message.Terminate control) l (holds_taken host object (message.Terminate control) past tt)
        (leaves_all object events.items _ _ a.1 (nothing_new object _))
    by (message.Return control page dirty keep bytes) a w l =
        let told : events.items ≡ told_of (is_stored events.items) object page = subst (λ (o : ℕ). events.items ≡ told_of (is_stored events.items) o page)
        serves.stands.object_is a.told in
        let sized : WriteTold before after old.name (page.0 * header.size) bytes (write_answer (is_stored events.items)) = subst
        (λ (n : ℕ). WriteTold before after old.name (page.0 * n) bytes (write_answer (is_stored events.items))) serves.stands.size_is l in
        subst (λ (es : List Event). CarriesFile header.size host object old.name before after past
        (es ++ taking host object (message.Return control page dirty keep bytes) past)) (sym told)
        (carried_returned header.size host object page.0 old.name bytes (is_stored events.items) before after past _ (w ∙ serves.stands.size_is)
        (returned host object control page dirty keep bytes (is_stored events.items) past) sized)
    by (message.Ready cache strategy) a w l = elim a [ ]
    by (message.Supply page lock precious bytes) a w l = elim a [ ]
    by (message.Unavailable page) a w l = elim a [ ]
    by (message.Error page reason) a w l = elim a [ ]
    by (message.Lock page count returns flush lock reply) a w l = elim a [ ]
    by (message.Attributes cache strategy reply) a w l = elim a [ ]
    by (message.Destroy reason) a w l = elim a [ ]
