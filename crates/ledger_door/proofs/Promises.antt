-- The theorem of the ledger's calls on an image that can't be read: unreadable. Such an image stands for a ledger with a leg too many.
use Rattle.table_image.specs.Table.{table_of}
use Rattle.ledger_image.specs.Ledger.{ledger_of}
use Rattle.ledger_laws.specs.Calls.{accepting, answering, ticking, clearing, refusal_of}
use Rattle.ledger_laws.specs.Promises.{broken_refusal}
use Rattle.ledger_laws.proofs.Promises.{rules-broken}
use Rattle.ledger_door.specs.Calls.{pz_answer, pz_tick, pz_clear, pz_accept}
use Rattle.ledger_door.specs.Promises.{Unreadable}
use Rattle.ledger_door.proofs.Images.{broken}

pub unreadable : Unreadable
unfolding pz_answer pz_tick pz_clear pz_accept refusal_of broken_refusal
unreadable =
    record {
      answer = λ b by to seq reply h. rules-broken (ledger_of b) (answering by to seq reply) (broken b h);
      tick = λ b h. rules-broken (ledger_of b) ticking (broken b h);
      clear = λ b place h. rules-broken (ledger_of b) (clearing place) (broken b h);
      accept = λ b f arrival table ticks h. rules-broken (ledger_of b) (accepting f arrival (table_of table) ticks) (broken b h);
    }
