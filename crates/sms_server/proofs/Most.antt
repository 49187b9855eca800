-- The most events of an answer.
use Rattle.std.proofs.Common.{ℕ, ◌≡◌, List, length, Some, refl, sym, ◌∙◌, ap, subst, arith}
use Rattle.std.proofs.Common.{◌≤◌, Err, IfOk, Ok, OnOk, Result}
use Rattle.std.specs.Prelude.{slice_get}
use Rattle.sms_pages.specs.Directory.{most_replies}
use Rattle.vm_model.specs.declared.message.Message.{Message}
use Rattle.vm_model.specs.declared.message.Message.TheVariants as message
use Rattle.sms_server.proofs.Placed.{AreApart, among_at}
use Rattle.sms_server.specs.Answers.{IsAbout, IsEnd, IsOfOnePage, most_told}
use Rattle.sms_server.specs.Table.{IsSameTable, ServerTable, directory_at, directory_in, most_events, row_among}
use Rattle.sms_server.specs.declared.page_row.PageRow.{PageRow}

-- the most events of the answer to a message about one page are the most replies of the page

told_at : (o p : ℕ) (m : Message) (table : ServerTable) → IsAbout p m → IsOfOnePage m → most_told o m table ≡ most_replies (directory_at table o p)
told_at o p (message.Request control page access) table about one = ap (λ (z : ℕ). most_replies (directory_at table o z)) about.0
told_at o p (message.Unlock control page access) table about one = ap (λ (z : ℕ). most_replies (directory_at table o z)) about
told_at o p (message.Return control page dirty keep bytes) table about one = ap (λ (z : ℕ). most_replies (directory_at table o z)) about
told_at o p (message.Completed control page count) table about one = ap (λ (z : ℕ). most_replies (directory_at table o z)) about.0
told_at o p (message.Terminate control) table about one = absurd one
told_at o p other table about one = absurd about

pub told_of_row : (o p : ℕ) (m : Message) (rows : List PageRow) (i : ℕ) (x : PageRow) (table other : ServerTable) → IsAbout p m → IsOfOnePage m
    → x.key.object.0 ≡ o → x.key.page.0 ≡ p → table.rows ≡ rows → AreApart rows
    → slice_get rows i ≡ Some x → (directory_at table o p).line ≡ (directory_at other o p).line → most_told o m other ≡ most_replies x.directory
told_of_row o p m rows i x table other about one own at_page seen apart is lines =
    let among : row_among x.key.object.0 x.key.page.0 table.rows ≡ Some x = ap (row_among x.key.object.0 x.key.page.0) seen ∙ among_at i x rows apart is in
    let mine : row_among o p table.rows ≡ Some x = subst (λ (z : ℕ). row_among o z table.rows ≡ Some x) at_page
    (subst (λ (z : ℕ). row_among z x.key.page.0 table.rows ≡ Some x) own among) in
    let here : directory_at table o p ≡ x.directory = ap (directory_in table.size) mine in
    let now = ap most_replies here in
    let same = ap length lines in
    let told = told_at o p m other about one in
    omega (arith, now, same, told)

-- so it is of a table that is the same but for the memory at hand
pub most_of_left : {E : Type 0} (r : Result ℕ E) (o p : ℕ) (m : Message) (rows : List PageRow) (i : ℕ) (x : PageRow) (table left : ServerTable) → IsAbout p m
    → IsOfOnePage m → x.key.object.0 ≡ o → x.key.page.0 ≡ p → table.rows ≡ rows
    → AreApart rows → slice_get rows i ≡ Some x → IsSameTable table left → IfOk r (λ most. most ≡ most_replies x.directory)
    → IfOk r (λ most. most ≡ most_told o m left)
most_of_left (Ok n) o p m rows i x table left about one own at_page seen apart is same most =
    most ∙ sym (told_of_row o p m rows i x table left about one own at_page seen apart is (sym (same.pages o p).directory.line))
most_of_left (Err e) o p m rows i x table left about one own at_page seen apart is same most = tt

-- a number that is another
pub same_number : {E : Type 0} (r : Result ℕ E) (n k : ℕ) → IfOk r (λ m. m ≡ n) → n ≡ k → IfOk r (λ m. m ≡ k)
same_number (Ok m) n k is same = is ∙ same
same_number (Err e) n k is same = tt

-- room for so many is room for as many
pub enough : {T E : Type 0} (r : Result T E) (most few room : ℕ) → OnOk r (most ≤ room) → most ≡ few → OnOk r (few ≤ room)
enough (Ok x) most few room le same = omega (arith, le, same)
enough (Err e) most few room le same = tt

-- where a control ends they are those of all pages
pub told_everywhere : (o : ℕ) (m : Message) (table : ServerTable) → IsEnd m → most_told o m table ≡ most_events o table
told_everywhere o (message.Terminate control) table end = refl
told_everywhere o m table end = absurd end
