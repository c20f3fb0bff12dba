-- `incoming::check_counted` meets its contract: each arm is a transport.
-- Assumes nothing.
use Rattle.std.proofs.Common.{◌≡◌, ◌/◌, ◌%◌, sym, ap, ◌∙◌, arith}
use Rattle.modbus.specs.Paper.{told, done_paper}
use Rattle.modbus.proofs.PaperLaws.{handed_on}
use Rattle.incoming.proofs.EnvelopeLaws.{rtu_checked, ascii_checked, ascii_short, tcp_checked}
use Rattle.incoming.proofs.check_counted.Goals as goal

pub returns-in-Rtu : goal.returns-in-Rtu
returns-in-Rtu c =
    let h : c.calc_crc16.result / 256 % 256 ≡ c.calc_crc16.result / 256 = omega arith in
    let b = rw h at c.to_le_bytes-check.ensures in
    rw c.in-Rtu.is ((rw b at c.follows.ensures) ∙ sym (ap told (rtu_checked _ _ _ _ c.calc_crc16.ensures)))

pub returns-in_err-calc_lrc-in-Ascii : goal.returns-in_err-calc_lrc-in-Ascii
returns-in_err-calc_lrc-in-Ascii c =
    ap done_paper (handed_on _ c.from_residual.ensures.1)
    ∙ rw c.in-Ascii.is (sym (ap told (ascii_short _ _ _ _ c.calc_lrc.ensures _ c.in_err-calc_lrc-in-Ascii.was)))

pub returns-in_ok-calc_lrc-in-Ascii : goal.returns-in_ok-calc_lrc-in-Ascii
returns-in_ok-calc_lrc-in-Ascii c =
    rw c.in-Ascii.is
    (c.follows-in-Ascii.ensures ∙ sym (ap told (ascii_checked _ _ _ _ c.calc_lrc.ensures _ c.in_ok-calc_lrc-in-Ascii.was)))

pub returns-in-TcpUdp : goal.returns-in-TcpUdp
returns-in-TcpUdp c = rw c.in-TcpUdp.is (sym (ap told (tcp_checked _ _ _)))
