-- All that is promised. Assumes nothing.
use Rattle.promises.specs.Promises.{Promises}
use Rattle.promises.proofs.Demand1.{demand1}
use Rattle.promises.proofs.Demand2.{demand2}
use Rattle.promises.proofs.Demand3Sealed.{demand3}
use Rattle.promises.proofs.Demand3Live.{demand3_live}
use Rattle.promises.proofs.Cases.{cases}
use Rattle.promises.proofs.Reasons.{request101}
use Rattle.promises.proofs.Zeros.{request102}
use Rattle.promises.proofs.Floors.{request103}
use Rattle.promises.proofs.FallingFirst.{request104}
use Rattle.promises.proofs.Digits.{request105}
use Rattle.promises.proofs.Gains.{request106}
use Rattle.promises.proofs.Tables.{request107}
use Rattle.promises.proofs.Forty.{request108}

pub promises : Promises
promises =
    record {
      demand1 = demand1;
      demand2 = demand2;
      demand3_sealed = demand3;
      demand3_live = demand3_live;
      cases = cases;
      request101 = request101;
      request102 = request102;
      request103 = request103;
      request104 = request104;
      request105 = request105;
      request106 = request106;
      request107 = request107;
      request108 = request108;
    }
