use Rattle.std.proofs.Common.{subst}
use Rattle.guest_regs.specs.Registers.{Registers}
use Rattle.guest_regs.specs.Kept.{HaveTheirBits, AreWords}
use Rattle.guest_regs.proofs.registers.Regs.are_kept.Goals as goal

pub returns : goal.returns
returns c =
    let Bits : Registers → Type 0 = λ r. HaveTheirBits r.pc r.msr r.xer r.pid r.ivpr r.ivor r.mas7 r.l1csr0 r.l1csr1 r.bucsr in
    let Lists : Registers → Type 0 = λ r. AreWords 32 r.gpr × AreWords 16 r.ivor × AreWords 8 r.sprg in
    let lists : Lists c.args.self.now =
    subst Lists c.self.view_is (
      record { number = c.self.told.0; each = c.words_fit.ensures.each },
      record { number = c.self.told.1; each = c.words_fit-2.ensures.each },
      record { number = c.self.told.2; each = c.words_fit-3.ensures.each },
    )
    in
    record {
      bits = subst Bits c.self.view_is c.self.invariant;
      gpr = lists.0;
      ivor = lists.1;
      sprg = lists.2;
      pc = c.branches_fit.ensures.pc;
      cr = c.branches_fit.ensures.cr;
      lr = c.branches_fit.ensures.lr;
      ctr = c.branches_fit.ensures.ctr;
      dec = c.timers_fit.ensures.dec;
      decar = c.timers_fit.ensures.decar;
      srr0 = c.interrupts_fit.ensures.srr0;
      srr1 = c.interrupts_fit.ensures.srr1;
      csrr0 = c.interrupts_fit.ensures.csrr0;
      csrr1 = c.interrupts_fit.ensures.csrr1;
      mcsrr0 = c.interrupts_fit.ensures.mcsrr0;
      mcsrr1 = c.interrupts_fit.ensures.mcsrr1;
      dear = c.interrupts_fit.ensures.dear;
      esr = c.interrupts_fit.ensures.esr;
      tsr = c.timers_fit.ensures.tsr;
      tcr = c.timers_fit.ensures.tcr;
      hid0 = c.timers_fit.ensures.hid0;
      mas0 = c.assists_fit.ensures.mas0;
      mas1 = c.assists_fit.ensures.mas1;
      mas2 = c.assists_fit.ensures.mas2;
      mas3 = c.assists_fit.ensures.mas3;
      mas4 = c.assists_fit.ensures.mas4;
      mas6 = c.assists_fit.ensures.mas6;
      pir = c.branches_fit.ensures.pir;
      time = c.marks_fit.ensures.time;
      reserved = c.marks_fit.ensures.reserved;
    }
