-- The places of register bits, with the names of chapter 13, "Register Descriptions", of Intel's "PCI/PCI-X Family of Gigabit Ethernet
-- Controllers Software Developer's Manual". The place of a field of several bits is the place of its lowest bit.
use Rattle.std.specs.Prelude.{ℕ, ◌^◌}

-- The word in which only the bit at this place is 1.
abbrev pub alone : ℕ → ℕ
alone place = 2 ^ place

-- Auto-speed detection enable, which has no effect in the model. A bit of CTRL (13.4.1 "Device Control Register").
abbrev pub ctrl_asde : ℕ
ctrl_asde = 5

-- Set link up: while the bit is set, STATUS shows the link of the PHY. While the bit is clear, STATUS shows no link.
abbrev pub ctrl_slu : ℕ
ctrl_slu = 6

-- Device reset: a write of 1 resets the adapter.
abbrev pub ctrl_rst : ℕ
ctrl_rst = 26

-- Link up: the link of the PHY is up and CTRL.SLU is set. A bit of STATUS (13.4.2 "Device Status Register").
abbrev pub status_lu : ℕ
status_lu = 1

-- The speed of the link, 2 bits.
abbrev pub status_speed : ℕ
status_speed = 6

-- Receive enable: while the bit is 0, no frame is stored and no piece is moved. A bit of RCTL (13.4.22 "Receive Control Register").
abbrev pub rctl_en : ℕ
rctl_en = 1

-- Unicast promiscuous: all individual addresses pass the filter.
abbrev pub rctl_upe : ℕ
rctl_upe = 3

-- Multicast promiscuous: all group addresses pass the filter.
abbrev pub rctl_mpe : ℕ
rctl_mpe = 4

-- Multicast offset, 2 bits: which 12 bits of a group address are its number.
abbrev pub rctl_mo : ℕ
rctl_mo = 12

-- Broadcast accept mode: the broadcast address passes the filter.
abbrev pub rctl_bam : ℕ
rctl_bam = 15

-- The size of the receive buffers, 2 bits: 2,048, 1,024, 512 or 256 bytes.
abbrev pub rctl_bsize : ℕ
rctl_bsize = 16

-- VLAN filter enable: a frame with a VLAN tag passes only if the VLAN table contains its VLAN number.
abbrev pub rctl_vfe : ℕ
rctl_vfe = 18

-- Buffer size extension: while the bit is set, each RxData that has something to do is a fault (our choice).
abbrev pub rctl_bsex : ℕ
rctl_bsex = 25

-- Strip the CRC, which has no effect in the model: frames in the model have no CRC.
abbrev pub rctl_secrc : ℕ
rctl_secrc = 26

-- Transmit enable: while the bit is 0, no frame is taken from the ring. A bit of TCTL (13.4.33 "Transmit Control Register").
abbrev pub tctl_en : ℕ
tctl_en = 1

-- Pad short packets: TxTake pads a frame of fewer than 60 bytes with zeros.
abbrev pub tctl_psp : ℕ
tctl_psp = 3

-- Collision threshold, 8 bits, which has no effect in the model.
abbrev pub tctl_ct : ℕ
tctl_ct = 4

-- Collision distance, 10 bits, which has no effect in the model.
abbrev pub tctl_cold : ℕ
tctl_cold = 12

-- Address valid: the entry's address is a receive address, which the filter accepts. A bit of RAH (13.5.3 "Receive Address High").
abbrev pub rah_av : ℕ
rah_av = 31

-- Transmit descriptor written back. A cause: a bit of ICR, ICS, IMS and IMC (13.4.17 "Interrupt Cause Read Register").
abbrev pub txdw : ℕ
txdw = 0

-- Transmit queue empty: the last offered descriptor was taken, so that TDH equals TDT.
abbrev pub txqe : ℕ
txqe = 1

-- Link status change: the link changed from down to up.
abbrev pub lsc : ℕ
lsc = 2

-- Receive descriptor minimum threshold: the number of offered descriptors decreased to exactly half of the ring's descriptors.
abbrev pub rxdmt0 : ℕ
rxdmt0 = 4

-- Receiver overrun: a frame was missed.
abbrev pub rxo : ℕ
rxo = 6

-- Receiver timer: the adapter is done with the last descriptor of a frame.
abbrev pub rxt0 : ℕ
rxt0 = 7

-- MDI/O access complete: an MDIC command with bit I set has ended.
abbrev pub mdac : ℕ
mdac = 9
