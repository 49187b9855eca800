-- A new server stands for the empty history.
use Rattle.std.proofs.Common.{List, [], ap, refl, subst, sym}
use Rattle.std.specs.Prelude.{replicate}
use Rattle.sms_pages.proofs.Taken.{begins}
use Rattle.sms_pages.specs.Stands.{StandsFor}
use Rattle.vm_legal.specs.InTurn.{AllRecalled}
use Rattle.vm_model.specs.declared.script.Header.{Header}
use Rattle.sms_server.specs.Stands.{IsNewServer, ServerStands}
use Rattle.sms_server.specs.Table.{ServerTable, directory_in, heard_in, new_directory, row_among}
use Rattle.sms_server.specs.declared.page_row.PageRow.{PageRow}

pub server_start : (header : Header) (table : ServerTable) → IsNewServer header table → ServerStands header table []
server_start header table new = record {
  size = new.size;
  pages = λ o p shared. subst (λ (rows : List PageRow). StandsFor header.size (directory_in table.size (row_among o p rows)) []) (sym new.rows)
      (begins header.size (new_directory table.size) (record { holds = refl; awaits = refl; line = refl; bytes = ap (λ n. replicate n 0) new.size }));
  heard = λ o p shared h. ap (λ (rows : List PageRow). heard_in (row_among o p rows) h) new.rows;
}

-- where nothing has happened nobody stands in line
pub start_recalled : (header : Header) → AllRecalled header []
start_recalled header object page host w shared front way = absurd (cc)
