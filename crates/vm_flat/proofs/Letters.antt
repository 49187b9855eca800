-- What a channel holds about one page.
use Rattle.std.proofs.Common.{ℕ, ◌≡◌, List, [], ◌∷◌, ◌++◌, Bool, true, false, refl, sym, ap, ◌∙◌, Option, Some, if◌then◌else◌}
use Rattle.std.specs.Prelude.{◌==◌, ◌&&◌}
use Rattle.vm_model.specs.declared.message.Message.{Message}
use Rattle.vm_model.specs.declared.message.Message.TheVariants as message
use Rattle.vm_model.specs.Controls.{is_control}
use Rattle.vm_flat.specs.Words.{SpotUpWord, Requesting, Returning, SpotDownWord, Supplying, Unavailing, Erring, SpotEffect, Creates, Requests, Returns}
use Rattle.vm_flat.specs.Words.{TakesRequest, TakesReturn, Answers, Takes, Ends, StepEnds, Nothing}
use Rattle.vm_model.specs.Side.{rest}
use Rattle.vm_model.specs.Server.{first}
use Rattle.vm_flat.specs.Spot.{Spot, spot_after}
use Rattle.vm_flat.specs.Places.{at_place, effect_sent_up, effect_taken_up, effect_sent_down, effect_taken_down}

-- what is on the way up about page p, oldest first
abbrev pub up_words : ℕ → List Message → List SpotUpWord
up_words p [] = []
up_words p (message.Request control page access ∷ q) = if page.0 == p then Requesting ∷ up_words p q else up_words p q
up_words p (message.Return control page dirty keep bytes ∷ q) = if page.0 == p then Returning bytes ∷ up_words p q else up_words p q
up_words p (m ∷ q) = up_words p q

abbrev pub down_words : ℕ → List Message → List SpotDownWord
down_words p [] = []
down_words p (message.Supply page lock precious bytes ∷ q) = if page.0 == p then Supplying bytes ∷ down_words p q else down_words p q
down_words p (message.Unavailable page ∷ q) = if page.0 == p then Unavailing ∷ down_words p q else down_words p q
down_words p (message.Error page reason ∷ q) = if page.0 == p then Erring ∷ down_words p q else down_words p q
down_words p (m ∷ q) = down_words p q

cons_if : {A : Type 0} (b : Bool) (w : A) (q r s : List A) → q ≡ r ++ s → (if b then w ∷ q else q) ≡ (if b then w ∷ r else r) ++ s
cons_if true w q r s same = ap (λ z. w ∷ z) same
cons_if false w q r s same = same

pub up_end : (p : ℕ) (q : List Message) (m : Message) → up_words p (q ++ m ∷ []) ≡ up_words p q ++ up_words p (m ∷ [])
up_end p [] m = refl
up_end p (message.Request control page access ∷ q) m =
    cons_if (page.0 == p) Requesting (up_words p (q ++ m ∷ [])) (up_words p q) (up_words p (m ∷ [])) (up_end p q m)
up_end p (message.Return control page dirty keep bytes ∷ q) m =
    cons_if (page.0 == p) (Returning bytes) (up_words p (q ++ m ∷ [])) (up_words p q) (up_words p (m ∷ [])) (up_end p q m)
up_end p (n ∷ q) m = up_end p q m

pub down_end : (p : ℕ) (q : List Message) (m : Message) → down_words p (q ++ m ∷ []) ≡ down_words p q ++ down_words p (m ∷ [])
down_end p [] m = refl
down_end p (message.Supply page lock precious bytes ∷ q) m =
    cons_if (page.0 == p) (Supplying bytes) (down_words p (q ++ m ∷ [])) (down_words p q) (down_words p (m ∷ [])) (down_end p q m)
down_end p (message.Unavailable page ∷ q) m =
    cons_if (page.0 == p) Unavailing (down_words p (q ++ m ∷ [])) (down_words p q) (down_words p (m ∷ [])) (down_end p q m)
down_end p (message.Error page reason ∷ q) m =
    cons_if (page.0 == p) Erring (down_words p (q ++ m ∷ [])) (down_words p q) (down_words p (m ∷ [])) (down_end p q m)
down_end p (n ∷ q) m = down_end p q m

-- a queue with its first
pub first_rest : {A : Type 0} (q : List A) (m : A) → first q ≡ Some m → q ≡ m ∷ rest q
first_rest [] m e = absurd (cc)
first_rest (x ∷ q) m e = let same : x ≡ m = cc in ap (λ z. z ∷ q) same

nil_right : {A : Type 0} (q : List A) → q ++ [] ≡ q
nil_right [] = refl
nil_right (x ∷ q) = ap (λ z. x ∷ z) (nil_right q)

-- one page, one side: what is sent is put at the end, and what is taken was the first

up_if : (z : List ℕ) (s : Spot) (b : Bool) (E F : SpotEffect) → (spot_after z s E).up ≡ s.up → (spot_after z s F).up ≡ s.up
    → (spot_after z s (if b then E else F)).up ≡ s.up
up_if z s true E F e f = e
up_if z s false E F e f = f

down_if : (z : List ℕ) (s : Spot) (b : Bool) (E F : SpotEffect) → (spot_after z s E).down ≡ s.down → (spot_after z s F).down ≡ s.down
    → (spot_after z s (if b then E else F)).down ≡ s.down
down_if z s true E F e f = e
down_if z s false E F e f = f

pub up_place : (z : List ℕ) (s : Spot) (o p : ℕ) (own : Bool) (object page : ℕ) (E F : SpotEffect) → (spot_after z s E).up ≡ s.up → (spot_after z s F).up ≡ s.up
    → (spot_after z s (at_place o p own object page E F)).up ≡ s.up
up_place z s o p own object page E F e f = up_if z s (own && (object == o && page == p)) E F e f

pub down_place : (z : List ℕ) (s : Spot) (o p : ℕ) (own : Bool) (object page : ℕ) (E F : SpotEffect) → (spot_after z s E).down ≡ s.down
    → (spot_after z s F).down ≡ s.down → (spot_after z s (at_place o p own object page E F)).down ≡ s.down
down_place z s o p own object page E F e f = down_if z s (own && (object == o && page == p)) E F e f

takes_up : (z : List ℕ) (s : Spot) (w : SpotDownWord) → (spot_after z s (Takes w)).up ≡ s.up
takes_up z s (Supplying bytes) = refl
takes_up z s Unavailing = refl
takes_up z s Erring = refl

-- what goes up

sent_word : (z : List ℕ) (s : Spot) (q : List Message) (p : ℕ) (m : Message) (w : SpotUpWord) (E : SpotEffect) (own c d : Bool)
    → (spot_after z s E).up ≡ s.up ++ w ∷ [] → up_words p (m ∷ []) ≡ (if d then w ∷ [] else []) → s.up ≡ up_words p q
    → (spot_after z s (if own && (c && d) then E else Nothing)).up ≡ up_words p (if own && c then q ++ m ∷ [] else q)
sent_word z s q p m w E false c d e word same = same
sent_word z s q p m w E true false d e word same = same
sent_word z s q p m w E true true true e word same = e ∙ ap (λ x. x ++ w ∷ []) same ∙ ap (λ x. up_words p q ++ x) (sym word) ∙ sym (up_end p q m)
sent_word z s q p m w E true true false e word same = same ∙ sym (nil_right (up_words p q)) ∙ ap (λ x. up_words p q ++ x) (sym word) ∙ sym (up_end p q m)

sent_none : (q : List Message) (p : ℕ) (m : Message) (b : Bool) (up : List SpotUpWord) → up_words p (m ∷ []) ≡ [] → up ≡ up_words p q
    → up ≡ up_words p (if b then q ++ m ∷ [] else q)
sent_none q p m false up word same = same
sent_none q p m true up word same = same ∙ sym (nil_right (up_words p q)) ∙ ap (λ x. up_words p q ++ x) (sym word) ∙ sym (up_end p q m)

pub up_sent : (z : List ℕ) (s : Spot) (q : List Message) (o p : ℕ) (own : Bool) (live : Option ℕ) (object : ℕ) (m : Message) → s.up ≡ up_words p q
    → (spot_after z s (effect_sent_up o p own live object m)).up ≡ up_words p (if own && object == o then q ++ m ∷ [] else q)
up_sent z s q o p own live object (message.Request control page access) same =
    sent_word z s q p (message.Request control page access) Requesting (Requests (is_control control live)) own (object == o) (page.0 == p) refl refl same
up_sent z s q o p own live object (message.Return control page dirty keep bytes) same =
    sent_word z s q p (message.Return control page dirty keep bytes) (Returning bytes) (Returns keep bytes) own (object == o) (page.0 == p) refl refl same
up_sent z s q o p own live object (message.Init control size) same =
    sent_none q p (message.Init control size) (own && object == o) _ refl (up_if z s (own && object == o) Creates Nothing refl refl ∙ same)
up_sent z s q o p own live object (message.Create control size) same =
    sent_none q p (message.Create control size) (own && object == o) _ refl (up_if z s (own && object == o) Creates Nothing refl refl ∙ same)
up_sent z s q o p own live object (message.Terminate control) same =
    sent_none q p (message.Terminate control) (own && object == o) _ refl (up_if z s ((own && is_control control live) && object == o) Ends Nothing refl refl
    ∙ same)
up_sent z s q o p own live object m same = sent_none q p m (own && object == o) _ refl same

took_word : (z : List ℕ) (s : Spot) (q : List Message) (p : ℕ) (m : Message) (w : SpotUpWord) (E : SpotEffect) (own c d : Bool)
    → (spot_after z s E).up ≡ rest s.up → up_words p (m ∷ rest q) ≡ (if d then w ∷ up_words p (rest q) else up_words p (rest q))
    → ((own && c) ≡ true → first q ≡ Some m) → s.up ≡ up_words p q
    → (spot_after z s (if own && (c && d) then E else StepEnds)).up ≡ up_words p (if own && c then rest q else q)
took_word z s q p m w E false c d e word head same = same
took_word z s q p m w E true false d e word head same = same
took_word z s q p m w E true true true e word head same = e ∙ ap (λ x. rest x) (same ∙ ap (up_words p) (first_rest q m (head refl)) ∙ word)
took_word z s q p m w E true true false e word head same = same ∙ ap (up_words p) (first_rest q m (head refl)) ∙ word

took_none : (q : List Message) (p : ℕ) (m : Message) (b : Bool) (up : List SpotUpWord) → up_words p (m ∷ rest q) ≡ up_words p (rest q)
    → (b ≡ true → first q ≡ Some m) → up ≡ up_words p q → up ≡ up_words p (if b then rest q else q)
took_none q p m false up word head same = same
took_none q p m true up word head same = same ∙ ap (up_words p) (first_rest q m (head refl)) ∙ word

pub up_taken : (z : List ℕ) (s : Spot) (q : List Message) (o p : ℕ) (own : Bool) (object : ℕ) (m : Message) → ((own && object == o) ≡ true → first q ≡ Some m)
    → s.up ≡ up_words p q → (spot_after z s (effect_taken_up o p own object m)).up ≡ up_words p (if own && object == o then rest q else q)
up_taken z s q o p own object (message.Request control page access) head same =
    took_word z s q p (message.Request control page access) Requesting TakesRequest own (object == o) (page.0 == p) refl refl head same
up_taken z s q o p own object (message.Return control page dirty keep bytes) head same =
    took_word z s q p (message.Return control page dirty keep bytes) (Returning bytes) (TakesReturn bytes) own (object == o) (page.0 == p) refl refl head same
up_taken z s q o p own object m head same = took_none q p m (own && object == o) _ refl head same

pub up_sent_down : (z : List ℕ) (s : Spot) (o p : ℕ) (own tells : Bool) (object : ℕ) (m : Message)
    → (spot_after z s (effect_sent_down o p own tells object m)).up ≡ s.up
up_sent_down z s o p own tells object (message.Supply page lock precious bytes) =
    up_place z s o p own object page.0 (Answers tells (Supplying bytes)) Nothing refl refl
up_sent_down z s o p own tells object (message.Unavailable page) = up_place z s o p own object page.0 (Answers tells Unavailing) Nothing refl refl
up_sent_down z s o p own tells object (message.Error page reason) = up_place z s o p own object page.0 (Answers tells Erring) Nothing refl refl
up_sent_down z s o p own tells object m = refl

pub up_taken_down : (z : List ℕ) (s : Spot) (o p : ℕ) (own : Bool) (object : ℕ) (m : Message) → (spot_after z s (effect_taken_down o p own object m)).up ≡ s.up
up_taken_down z s o p own object (message.Supply page lock precious bytes) =
    up_place z s o p own object page.0 (Takes (Supplying bytes)) StepEnds (takes_up z s (Supplying bytes)) refl
up_taken_down z s o p own object (message.Unavailable page) = up_place z s o p own object page.0 (Takes Unavailing) StepEnds (takes_up z s Unavailing) refl
up_taken_down z s o p own object (message.Error page reason) = up_place z s o p own object page.0 (Takes Erring) StepEnds (takes_up z s Erring) refl
up_taken_down z s o p own object m = refl

-- what comes down: to control k, where the newest control is n

-- what a channel's words must be
abbrev pub down_of : Bool → Spot → List SpotDownWord
down_of newest s = if newest then s.down else []

answered_word : (z : List ℕ) (s : Spot) (tells : Bool) (q : List Message) (p : ℕ) (m : Message) (w : SpotDownWord) (own c d newest this newest' : Bool)
    → down_words p (m ∷ []) ≡ (if d then w ∷ [] else [])
    → ((own && c) ≡ true → d ≡ true → newest' ≡ true) → ((own && c) ≡ true → this ≡ true → newest ≡ newest')
    → ((own && c) ≡ true → newest ≡ true → newest' ≡ true → this ≡ true) → down_words p q ≡ down_of newest s
    → down_words p (if own && (c && this) then q ++ m ∷ [] else q) ≡ down_of newest
    (spot_after z s (if (own && newest') && (c && d) then Answers tells w else Nothing))
answered_word z s tells q p m w false c d newest this newest' word live same only is = is
answered_word z s tells q p m w true false d newest this true word live same only is = is
answered_word z s tells q p m w true false d newest this false word live same only is = is
answered_word z s tells q p m w true true d newest false false word live same only is = is
answered_word z s tells q p m w true true false newest false true word live same only is = is
answered_word z s tells q p m w true true true true false true word live same only is = absurd (clash (only refl refl refl))
  where
    clash : false ≡ true → ⊥
    clash e = cc
answered_word z s tells q p m w true true true false false true word live same only is = is
answered_word z s tells q p m w true true true newest true false word live same only is = absurd (clash (live refl refl))
  where
    clash : false ≡ true → ⊥
    clash e = cc
answered_word z s tells q p m w true true false newest true false word live same only is =
    down_end p q m ∙ ap (λ x. down_words p q ++ x) word ∙ nil_right (down_words p q) ∙ is
answered_word z s tells q p m w true true false newest true true word live same only is =
    down_end p q m ∙ ap (λ x. down_words p q ++ x) word ∙ nil_right (down_words p q) ∙ is
answered_word z s tells q p m w true true true true true true word live same only is =
    down_end p q m ∙ ap (λ x. down_words p q ++ x) word ∙ ap (λ x. x ++ w ∷ []) is
answered_word z s tells q p m w true true true false true true word live same only is = absurd (clash (same refl refl))
  where
    clash : false ≡ true → ⊥
    clash e = cc

answered_none : (q : List Message) (p : ℕ) (m : Message) (b : Bool) (down : List SpotDownWord) → down_words p (m ∷ []) ≡ [] → down_words p q ≡ down
    → down_words p (if b then q ++ m ∷ [] else q) ≡ down
answered_none q p m false down word is = is
answered_none q p m true down word is = down_end p q m ∙ ap (λ x. down_words p q ++ x) word ∙ nil_right (down_words p q) ∙ is

-- the message is an answer about page p
abbrev pub answers : ℕ → Message → Bool
answers p (message.Supply page lock precious bytes) = page.0 == p
answers p (message.Unavailable page) = page.0 == p
answers p (message.Error page reason) = page.0 == p
answers p m = false

pub down_sent : (z : List ℕ) (s : Spot) (tells : Bool) (q : List Message) (o p : ℕ) (own : Bool) (object : ℕ) (m : Message) (newest this newest' : Bool)
    → ((own && object == o) ≡ true → answers p m ≡ true → newest' ≡ true) → ((own && object == o) ≡ true → this ≡ true → newest ≡ newest')
    → ((own && object == o) ≡ true → newest ≡ true → newest' ≡ true → this ≡ true)
    → down_words p q ≡ down_of newest s → down_words p (if own && (object == o && this) then q ++ m ∷ [] else q) ≡ down_of newest
    (spot_after z s (effect_sent_down o p (own && newest') tells object m))
down_sent z s tells q o p own object (message.Supply page lock precious bytes) newest this newest' live same only is =
    answered_word z s tells q p (message.Supply page lock precious bytes) (Supplying bytes) own (object == o) (page.0 == p) newest this newest' refl live same
    only is
down_sent z s tells q o p own object (message.Unavailable page) newest this newest' live same only is =
    answered_word z s tells q p (message.Unavailable page) Unavailing own (object == o) (page.0 == p) newest this newest' refl live same only is
down_sent z s tells q o p own object (message.Error page reason) newest this newest' live same only is =
    answered_word z s tells q p (message.Error page reason) Erring own (object == o) (page.0 == p) newest this newest' refl live same only is
down_sent z s tells q o p own object m newest this newest' live same only is = answered_none q p m (own && (object == o && this)) (down_of newest s) refl is

heard_rest : (z : List ℕ) (s : Spot) (w : SpotDownWord) → (spot_after z s (Takes w)).down ≡ rest s.down
heard_rest z s (Supplying bytes) = refl
heard_rest z s Unavailing = refl
heard_rest z s Erring = refl

nil_cons : (w : SpotDownWord) (q : List SpotDownWord) → w ∷ q ≡ [] → ⊥
nil_cons w q e = cc

-- a word for another control than the newest cannot stand in front
heard_word : (z : List ℕ) (s : Spot) (q : List Message) (p : ℕ) (m : Message) (w : SpotDownWord) (own c d newest this newest' : Bool)
    → down_words p (m ∷ rest q) ≡ (if d then w ∷ down_words p (rest q) else down_words p (rest q))
    → ((own && (c && this)) ≡ true → first q ≡ Some m) → ((own && c) ≡ true → this ≡ true → newest ≡ newest')
    → ((own && c) ≡ true → newest ≡ true → newest' ≡ true → this ≡ true) → down_words p q ≡ down_of newest s
    → down_words p (if own && (c && this) then rest q else q) ≡ down_of newest (spot_after z s (if (own && newest') && (c && d) then Takes w else StepEnds))
heard_word z s q p m w false c d newest this newest' word head same only is = is
heard_word z s q p m w true false d newest this true word head same only is = is
heard_word z s q p m w true false d newest this false word head same only is = is
heard_word z s q p m w true true d newest false false word head same only is = is
heard_word z s q p m w true true false newest false true word head same only is = is
heard_word z s q p m w true true true true false true word head same only is = absurd (clash (only refl refl refl))
  where
    clash : false ≡ true → ⊥
    clash e = cc
heard_word z s q p m w true true true false false true word head same only is = is
heard_word z s q p m w true true d true true false word head same only is = absurd (clash (same refl refl))
  where
    clash : true ≡ false → ⊥
    clash e = cc
heard_word z s q p m w true true true false true false word head same only is =
    absurd (nil_cons w (down_words p (rest q)) (sym word ∙ sym (ap (down_words p) (first_rest q m (head refl))) ∙ is))
heard_word z s q p m w true true false false true false word head same only is = sym word ∙ sym (ap (down_words p) (first_rest q m (head refl))) ∙ is
heard_word z s q p m w true true false newest true true word head same only is = sym word ∙ sym (ap (down_words p) (first_rest q m (head refl))) ∙ is
heard_word z s q p m w true true true false true true word head same only is = absurd (clash (same refl refl))
  where
    clash : false ≡ true → ⊥
    clash e = cc
heard_word z s q p m w true true true true true true word head same only is =
    let all : w ∷ down_words p (rest q) ≡ s.down = sym word ∙ sym (ap (down_words p) (first_rest q m (head refl))) ∙ is in
    ap (λ x. rest x) all ∙ sym (heard_rest z s w)

heard_none : (q : List Message) (p : ℕ) (m : Message) (b : Bool) (down : List SpotDownWord) → down_words p (m ∷ rest q) ≡ down_words p (rest q)
    → (b ≡ true → first q ≡ Some m) → down_words p q ≡ down → down_words p (if b then rest q else q) ≡ down
heard_none q p m false down word head is = is
heard_none q p m true down word head is = sym word ∙ sym (ap (down_words p) (first_rest q m (head refl))) ∙ is

pub down_taken : (z : List ℕ) (s : Spot) (q : List Message) (o p : ℕ) (own : Bool) (object : ℕ) (m : Message) (newest this newest' : Bool)
    → ((own && (object == o && this)) ≡ true → first q ≡ Some m) → ((own && object == o) ≡ true → this ≡ true → newest ≡ newest')
    → ((own && object == o) ≡ true → newest ≡ true → newest' ≡ true → this ≡ true)
    → down_words p q ≡ down_of newest s → down_words p (if own && (object == o && this) then rest q else q) ≡ down_of newest
    (spot_after z s (effect_taken_down o p (own && newest') object m))
down_taken z s q o p own object (message.Supply page lock precious bytes) newest this newest' head same only is =
    heard_word z s q p (message.Supply page lock precious bytes) (Supplying bytes) own (object == o) (page.0 == p) newest this newest' refl head same only is
down_taken z s q o p own object (message.Unavailable page) newest this newest' head same only is =
    heard_word z s q p (message.Unavailable page) Unavailing own (object == o) (page.0 == p) newest this newest' refl head same only is
down_taken z s q o p own object (message.Error page reason) newest this newest' head same only is =
    heard_word z s q p (message.Error page reason) Erring own (object == o) (page.0 == p) newest this newest' refl head same only is
down_taken z s q o p own object m newest this newest' head same only is = heard_none q p m (own && (object == o && this)) (down_of newest s) refl head is

-- the other way

pub down_sent_up : (z : List ℕ) (s : Spot) (o p : ℕ) (own : Bool) (live : Option ℕ) (object : ℕ) (m : Message)
    → (spot_after z s (effect_sent_up o p own live object m)).down ≡ s.down
down_sent_up z s o p own live object (message.Request control page access) =
    down_place z s o p own object page.0 (Requests (is_control control live)) Nothing refl refl
down_sent_up z s o p own live object (message.Return control page dirty keep bytes) =
    down_place z s o p own object page.0 (Returns keep bytes) Nothing refl refl
down_sent_up z s o p own live object (message.Init control size) = down_if z s (own && object == o) Creates Nothing refl refl
down_sent_up z s o p own live object (message.Create control size) = down_if z s (own && object == o) Creates Nothing refl refl
down_sent_up z s o p own live object (message.Terminate control) = down_if z s ((own && is_control control live) && object == o) Ends Nothing refl refl
down_sent_up z s o p own live object m = refl

pub down_taken_up : (z : List ℕ) (s : Spot) (o p : ℕ) (own : Bool) (object : ℕ) (m : Message)
    → (spot_after z s (effect_taken_up o p own object m)).down ≡ s.down
down_taken_up z s o p own object (message.Request control page access) = down_place z s o p own object page.0 TakesRequest StepEnds refl refl
down_taken_up z s o p own object (message.Return control page dirty keep bytes) = down_place z s o p own object page.0 (TakesReturn bytes) StepEnds refl refl
down_taken_up z s o p own object m = refl
